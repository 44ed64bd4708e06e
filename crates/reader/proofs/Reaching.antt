-- Marks that are set along state p's chain, up to the first record that is marked already; and along all chains.
use Prim.Native.Nat.{ℕ, ◌+◌, ◌-◌, ◌≤◌, ◌<◌}
use mathlib.Core.Path.{◌≡◌, sym, ap, ◌∙◌}
use mathlib.Core.Bool.{not, ◌||◌}
use mathlib.Core.List.{List}
use mathlib.Core.Logic.{◌⊎◌, inl, inr, ⊎_elim}
use native.Mathlib.Omega.{arith}
use native.Mathlib.Nat.{not-suc-le-zero}
use native.Mathlib.Decide.{ℕ_discrete}
use borrow.Author.Tests.{eqb-true, eq-eqb, ne_eqb}
use lib.ListN.{length, get_or, set, length-set}
use lib.Seq.{get_or-set_same, get_or-set_other}
use lib.Dec.{eqb}
use Rattle.lts.specs.Bounded.{passing, lowest}
use Rattle.lts.proofs.Below.{lt-or-ge, bool_iff, T_true, true-T, eqb-sym, lowest-cong}
use Rattle.lts.proofs.Lists.{passing-same, passing-or, length-passing}
use Rattle.lts.proofs.Count.{count_most}
use Rattle.encoding.specs.declared.Header.{Header}
use Rattle.encoding.specs.Records.{state_record, transition_record}
use Rattle.encoding.specs.Encoding.{on_some_chain}
use Rattle.encoding.specs.Checked.{Recorded}
use Rattle.encoding.specs.Read.{OnChain}
use Rattle.encoding.specs.Read.OnChain.{first, next}
use Rattle.reader.specs.Marks.{ReachedBelow}
use Rattle.reader.proofs.Marks.{mark-at}
use Rattle.encoding.proofs.OnChain.{on-chain-iff}

-- an index ends a chain or names a marked record
abbrev pub Ended : List ℕ → ℕ → Type 0
Ended m y = (y ≡ 0) ⊎ (get_or m y 0 ≡ 1)

-- The walk has come to the index j. The marked records are on the chains of the states up to p. What p's first index and the next indices of
-- the marked records name is marked, but for j.
pub record Reaching (s : List ℕ) (h : Header) (p : ℕ) (m : List ℕ) (j : ℕ) : Type 0 where
  pub long : length m ≡ 1025
  pub marks : (q x : ℕ) → q < p → OnChain s h q x → get_or m x 0 ≡ 1
  pub only : (x : ℕ) → get_or m x 0 ≡ 1 → (q : ℕ) × (q < p + 1) × OnChain s h q x
  pub here : (j ≡ 0) ⊎ OnChain s h p j
  pub firsts : Ended m (state_record s h p).first ⊎ ((state_record s h p).first ≡ j)
  pub nexts : (x : ℕ) → get_or m x 0 ≡ 1 → Ended m (transition_record s h x).next ⊎ ((transition_record s h x).next ≡ j)

module _ (s : List ℕ) (h : Header) (p : ℕ) where
  -- an index is 0, or p's chain holds what it names
  on-first : (j : ℕ) → (state_record s h p).first ≡ j → (j ≡ 0) ⊎ OnChain s h p j
  on-first j e = elim (ℕ_discrete j 0) [ yes z ↦ inl z | no z ↦ inr (first j (omega (arith, z)) e) ]

  on-next : (i j : ℕ) → OnChain s h p i → (transition_record s h i).next ≡ j → (j ≡ 0) ⊎ OnChain s h p j
  on-next i j o e = elim (ℕ_discrete j 0) [ yes z ↦ inl z | no z ↦ inr (next i j o (omega (arith, z)) e) ]

  pub reaching-start : {m : List ℕ} (j : ℕ) → ReachedBelow s h p m → j ≡ (state_record s h p).first → Reaching s h p m j
  reaching-start j r e = record {
    long = r.closed.long;
    marks = r.marks;
    only = λ x y. let o = r.only x y in (o.0, omega (arith, o.1), o.2);
    here = on-first j (sym e);
    firsts = inr (sym e);
    nexts = λ x y. inl (r.closed.next x y);
  }

  module _ {m : List ℕ} {j : ℕ} (r : Reaching s h p m j) where
    -- where j itself ends a chain or is marked, the walk is at its end
    settle : Ended m j → (y : ℕ) → Ended m y ⊎ (y ≡ j) → Ended m y
    settle d y = ⊎_elim (λ e. e) (λ e. rw e d)

    named : (y : ℕ) → 1 ≤ y → Ended m y → get_or m y 0 ≡ 1
    named y l = ⊎_elim (λ z. absurd (omega (arith, z, l))) (λ e. e)

    chain-marked : Ended m j → (x : ℕ) → OnChain s h p x → get_or m x 0 ≡ 1
    chain-marked d x (first y l e) = named y l (rw e at (settle d _ r.firsts))
    chain-marked d x (next i y o l e) = named y l (rw e at (settle d _ (r.nexts i (chain-marked d i o))))

    pub reaching-end : Ended m j → ReachedBelow s h (p + 1) m
    reaching-end d = record {
      closed = record { long = r.long; next = λ x e. settle d _ (r.nexts x e) };
      marks = λ q x l o. ⊎_elim (λ (k : q < p). r.marks q x k o) (λ (k : p ≤ q). chain-marked d x (let e : q ≡ p = omega arith in rw e at o)) (lt-or-ge q p);
      only = r.only;
    }

    module _ (l : j < 1025) (nonzero : j ≡ 0 → ⊥) where
      here_on : OnChain s h p j
      here_on = ⊎_elim (λ z. absurd (nonzero z)) (λ o. o) r.here

      -- the marked places after j was marked: those before, and j
      stays : (x : ℕ) → get_or m x 0 ≡ 1 → get_or (set m j 1) x 0 ≡ 1
      stays x e = go (ℕ_discrete x j)
        where
          go : Dec (x ≡ j) → get_or (set m j 1) x 0 ≡ 1
          go (yes q) = rw q (get_or-set_same m j 1 0 (omega (arith, r.long)))
          go (no n) = get_or-set_other m j x 1 0 n ∙ e

      now-marked : (x : ℕ) → get_or (set m j 1) x 0 ≡ 1 → (x ≡ j) ⊎ (get_or m x 0 ≡ 1)
      now-marked x e = elim (ℕ_discrete x j) [ yes q ↦ inl q | no n ↦ inr (sym (get_or-set_other m j x 1 0 n) ∙ e) ]

      ends : (y : ℕ) → Ended m y ⊎ (y ≡ j) → Ended (set m j 1) y
      ends y =
          ⊎_elim (⊎_elim inl (λ e. inr (stays y e)))
          (λ e. inr (rw e (get_or-set_same m j 1 0 (omega (arith, r.long)))))

      pub reaching-more : (k : ℕ) → k ≡ (transition_record s h j).next → Reaching s h p (set m j 1) k
      reaching-more k e = record {
        long = length-set m j 1 ∙ r.long;
        marks = λ q x l o. stays x (r.marks q x l o);
        only = λ x y. ⊎_elim (λ (q : x ≡ j). (p, omega arith, rw q here_on)) (λ f. r.only x f) (now-marked x y);
        here = on-next j k here_on (sym e);
        firsts = inl (ends _ r.firsts);
        nexts = λ x y. ⊎_elim (λ (q : x ≡ j). inr (rw q (sym e))) (λ f. inl (ends _ (r.nexts x f))) (now-marked x y);
      }

-- ## How many places are not marked yet
unfoldable pub unmarked : List ℕ → ℕ
unmarked m = 1025 - length (passing 1025 (λ x. eqb (get_or m x 0) 1))

pub unmarked-less : (m : List ℕ) (j : ℕ) → length m ≡ 1025 → j < 1025 → (get_or m j 0 ≡ 1 → ⊥) → unmarked (set m j 1) < unmarked m
unfolding unmarked
unmarked-less m j long l n =
    let more = passing-or 1025 j (λ x. eqb (get_or m x 0) 1) l (ne_eqb _ _ n) in
    let one : (x : ℕ) → eqb (get_or (set m j 1) x 0) 1 ≡ (eqb x j || eqb (get_or m x 0) 1) = λ x. rw (mark-at 1 m j x (omega (arith, long)), eqb-sym j x) in
    let same = passing-same 1025 _ _ (λ x k. one x) in
    let most = count_most 1025 (λ x. eqb (get_or (set m j 1) x 0) 1) in
    let count = length-passing 1025 (λ x. eqb (get_or (set m j 1) x 0) 1) in
    omega (arith, ap length same, more, most, count)

-- ## All chains from clean marks
pub reached-none : (s : List ℕ) (h : Header) (m : List ℕ) → length m ≡ 1025 → ((i : ℕ) → get_or m i 0 ≡ 0) → ReachedBelow s h 0 m
reached-none s h m long zeros = record {
  closed = record { long = long; next = λ x e. absurd (omega (arith, zeros x, e)) };
  marks = λ q x l o. absurd (not-suc-le-zero l);
  only = λ x e. absurd (omega (arith, zeros x, e));
}

module _ (s : List ℕ) (h : Header) (g : Recorded s h) where
  -- the lowest record that is not marked is the lowest that is on no chain
  pub reached-lowest : {m : List ℕ} {r : ℕ} (p : ℕ) → ReachedBelow s h p m → p ≤ h.states → h.states ≤ p
      → r ≡ lowest h.transitions (λ i. not (eqb (get_or m (i + 1) 0) 1)) → r ≡ lowest h.transitions (λ i. not (on_some_chain s h (i + 1)))
  reached-lowest {m} p b l u e = e ∙ lowest-cong h.transitions _ _ (λ i. ap not (at (i + 1)))
    where
      at : (j : ℕ) → eqb (get_or m j 0) 1 ≡ on_some_chain s h j
      at j =
          bool_iff (λ t. let o = b.only j (eqb-true (get_or m j 0) 1 t) in T_true _ ((on-chain-iff s h g j).1 (o.0, omega (arith, o.1), o.2)))
          (λ t. let o = (on-chain-iff s h g j).0 (true-T _ t) in eq-eqb _ _ (b.marks o.0 j (omega (arith, o.1)) o.2))
