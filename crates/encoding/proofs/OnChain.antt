-- A record is on some chain exactly where the walks of at most one record more than there are come to it.
use Prim.Native.Nat.{ℕ, zero, suc, ◌≤◌, ◌<◌}
use mathlib.Core.Path.{◌≡◌, refl, sym, ap, subst, ◌∙◌}
use mathlib.Core.Logic.{◌⊎◌, inl, inr, ⊎_elim, ◌↔◌}
use mathlib.Core.Bool.{Bool, true, false, not, ◌&&◌}
use mathlib.Core.List.{List}
use native.Mathlib.Omega.{arith}
use native.Mathlib.Nat.{not-suc-le-zero}
use native.Mathlib.Decide.{ℕ_discrete}
use lib.ListN.{length}
use lib.Dec.{T}
use Rattle.lts.proofs.Bounded.{dec}
use Rattle.lts.proofs.Below.{true-T}
use Rattle.encoding.specs.declared.Header.{Header}
use Rattle.encoding.specs.Records.{state_record, transition_record}
use Rattle.encoding.specs.Encoding.{walk, chain, reached, on_some_chain, member, distinct}
use Rattle.encoding.specs.Checked.{Recorded}
use Rattle.encoding.specs.Read.{OnChain, first, next, OnSomeChain}
use Rattle.encoding.proofs.Chains.{walk_more, walk-all, first-known}
use Rattle.encoding.proofs.Members.{member-here, member-first, member-later, member-cases, member-concat, concat-member, distinct-few}

-- ## A walk, and the index that it has come to
module _ (s : List ℕ) (h : Header) where
  abbrev pub to : ℕ → ℕ
  to j = (transition_record s h j).next

  unfoldable pub after : ℕ → ℕ → ℕ
  after zero i = i
  after (suc f) zero = 0
  after (suc f) (suc j) = after f (to (suc j))

  -- its length, where it has not ended
  pub walk-full : (f i : ℕ) → (after f i ≡ 0 → ⊥) → length (walk s h f i) ≡ f
  unfolding walk after
  walk-full zero i n = refl
  walk-full (suc f) zero n = absurd (n refl)
  walk-full (suc f) (suc j) n = ap suc (walk-full f (to (suc j)) n)

  -- each record on it was come to after fewer records
  walk-place : (f i x : ℕ) → T (member x (walk s h f i)) → (g : ℕ) × (g < f) × (after g i ≡ x)
  unfolding walk after member
  walk-place zero i x t = absurd t
  walk-place (suc f) zero x t = absurd t
  walk-place (suc f) (suc j) x t =
      member-cases x (suc j) (walk s h f (to (suc j))) (λ e. (0, omega arith, sym e))
      (λ m. let r = walk-place f (to (suc j)) x m in (suc r.0, omega (arith, r.1), r.2)) t

  -- a longer walk holds what a shorter one does
  walk-longer : (g f i x : ℕ) → g ≤ f → T (member x (walk s h g i)) → T (member x (walk s h f i))
  unfolding walk member
  walk-longer zero f i x l t = absurd t
  walk-longer (suc g) f zero x l t = absurd t
  walk-longer (suc g) zero (suc j) x l t = absurd (not-suc-le-zero l)
  walk-longer (suc g) (suc f) (suc j) x l t =
      member-cases x (suc j) (walk s h g (to (suc j))) (λ e. member-first x (suc j) (walk s h f (to (suc j))) e)
      (λ m. member-later x (suc j) (walk s h f (to (suc j))) (walk-longer g f (to (suc j)) x (omega arith) m)) t

  -- the next index of a record on it: 0, a record on it, or the index that it has come to
  Leads : ℕ → ℕ → ℕ → Type 0
  Leads f i y = (y ≡ 0) ⊎ (T (member y (walk s h f i)) ⊎ (y ≡ after f i))

  leads-start : (f i : ℕ) → Leads f i i
  unfolding walk after Leads
  leads-start zero i = inr (inr refl)
  leads-start (suc f) zero = inl refl
  leads-start (suc f) (suc j) = inr (inl (member-here (suc j) (walk s h f (to (suc j)))))

  walk-leads : (f i x : ℕ) → T (member x (walk s h f i)) → Leads f i (to x)
  unfolding walk after member Leads
  walk-leads zero i x t = absurd t
  walk-leads (suc f) zero x t = absurd t
  walk-leads (suc f) (suc j) x t = member-cases x (suc j) (walk s h f (to (suc j)))
      (λ e. deeper (to x) (subst (λ z. Leads f (to (suc j)) (to z)) (sym e) (leads-start f (to (suc j))))) (λ m. deeper (to x) (walk-leads f (to (suc j)) x m)) t
    where
      deeper : (y : ℕ) → Leads f (to (suc j)) y → Leads (suc f) (suc j) y
      deeper y (inl e) = inl e
      deeper y (inr (inl m)) = inr (inl (member-later y (suc j) (walk s h f (to (suc j))) m))
      deeper y (inr (inr e)) = inr (inr e)

  -- a walk does not leave what holds the next record of each of its records
  after-inside : (P : ℕ → Type 0) → ((x : ℕ) → P x → (to x ≡ 0) ⊎ P (to x)) → (f i : ℕ) → (i ≡ 0) ⊎ P i → (after f i ≡ 0) ⊎ P (after f i)
  unfolding after
  after-inside P c zero i q = q
  after-inside P c (suc f) zero q = inl refl
  after-inside P c (suc f) (suc j) (inl e) = absurd (let z = e in omega (arith, z))
  after-inside P c (suc f) (suc j) (inr q) = after-inside P c f (to (suc j)) (c (suc j) q)

  -- one that comes to a new record holds none twice
  walk-distinct : (f i : ℕ) → (after f i ≡ 0 → ⊥) → (T (member (after f i) (walk s h f i)) → ⊥) → distinct (walk s h f i) ≡ true
  unfolding walk after distinct member Leads
  walk-distinct zero i n m = refl
  walk-distinct (suc f) zero n m = absurd (n refl)
  walk-distinct (suc f) (suc j) n m =
      let x = suc j in
      let rest = walk s h f (to x) in
      let again = walk-distinct f (to x) n (λ t. m (member-later _ x rest t)) in
      go (member x rest) refl again
    where
      back : T (member (suc j) (walk s h f (to (suc j)))) → ⊥
      back t =
          let r = walk-place f (to (suc j)) (suc j) t in
          let g = r.0 in
          let P : ℕ → Type 0 = λ y. T (member y (walk s h (suc g) (suc j))) in
          let closed : (y : ℕ) → P y → (to y ≡ 0) ⊎ P (to y) = λ y q. ring g r.2 y (walk-leads (suc g) (suc j) y q) in
          ⊎_elim n (λ q. m (walk-longer (suc g) (suc f) (suc j) _ (omega (arith, r.1)) q))
          (after-inside P closed f (to (suc j)) (closed (suc j) (member-here (suc j) (walk s h g (to (suc j))))))
        where
          ring : (g : ℕ) → after g (to (suc j)) ≡ suc j → (y : ℕ) → Leads (suc g) (suc j) (to y) → (to y ≡ 0) ⊎ T (member (to y) (walk s h (suc g) (suc j)))
          ring g e y (inl z) = inl z
          ring g e y (inr (inl q)) = inr q
          ring g e y (inr (inr z)) = inr (member-first (to y) (suc j) (walk s h g (to (suc j))) (z ∙ e))

      go : (b : Bool) → member (suc j) (walk s h f (to (suc j))) ≡ b → distinct (walk s h f (to (suc j))) ≡ true
          → (not (member (suc j) (walk s h f (to (suc j)))) && distinct (walk s h f (to (suc j)))) ≡ true
      go true e d = absurd (back (true-T _ e))
      go false e d = rw (e, d)

-- ## Chains
module _ (s : List ℕ) (h : Header) (g : Recorded s h) where
  -- the next index of a record on a chain is 0 or names a record on it
  chain-closed : (p : ℕ) → p < h.states → (x : ℕ) → T (member x (chain s h p)) → (to s h x ≡ 0) ⊎ T (member (to s h x) (chain s h p))
  unfolding chain Leads
  chain-closed p l x t = go (walk-leads s h k i x t)
    where
      k : ℕ
      k = suc h.transitions

      i : ℕ
      i = (state_record s h p).first

      ended : (after s h k i ≡ 0) ⊎ T (member (after s h k i) (walk s h k i))
      ended = elim (ℕ_discrete (after s h k i) 0) [
        | yes e ↦ inl e
        | no n ↦ ⊎_elim (λ m. inr m)
            (λ (m : T (member (after s h k i) (walk s h k i)) → ⊥). absurd (let few = distinct-few h.transitions (walk s h k i) (walk-distinct s h k i n m)
            (walk-all s h g (λ x. (1 ≤ x) × (x ≤ h.transitions)) (λ j a b. (a, b)) k i (first-known s h g p l).bound) in
            omega (arith, few, walk-full s h k i n))) (dec (member (after s h k i) (walk s h k i)))
      ]

      go : Leads s h k i (to s h x) → (to s h x ≡ 0) ⊎ T (member (to s h x) (walk s h k i))
      go (inl e) = inl e
      go (inr (inl m)) = inr m
      go (inr (inr e)) = rw e ended

  pub chain-on : (p : ℕ) (f i : ℕ) → (i ≡ 0) ⊎ OnChain s h p i → (x : ℕ) → T (member x (walk s h f i)) → OnChain s h p x
  unfolding walk member
  chain-on p zero i o x t = absurd t
  chain-on p (suc f) zero o x t = absurd t
  chain-on p (suc f) (suc j) (inl e) x t = absurd (let z = e in omega (arith, z))
  chain-on p (suc f) (suc j) (inr o) x t =
      member-cases x (suc j) (walk s h f (to s h (suc j))) (λ e. rw e o)
      (λ m. chain-on p f (to s h (suc j)) (further p o) x m) t
    where
      further : (p : ℕ) → OnChain s h p (suc j) → (to s h (suc j) ≡ 0) ⊎ OnChain s h p (to s h (suc j))
      further p o = elim (ℕ_discrete (to s h (suc j)) 0) [ yes e ↦ inl e | no n ↦ inr (next (suc j) (to s h (suc j)) o (omega (arith, n)) refl) ]

  pub on_chain : (p : ℕ) → p < h.states → {j : ℕ} → OnChain s h p j → T (member j (chain s h p))
  unfolding chain
  on_chain p l (first j low e) = rw (e, walk_more s h (suc h.transitions) j (omega arith) low) (member-here j _)
  on_chain p l (next i j o low e) =
      ⊎_elim (λ z. absurd (omega (arith, z, e, low))) (λ m. rw e at m) (chain-closed p l i (on_chain p l o))

  some-reached : (j : ℕ) → T (on_some_chain s h j) → OnSomeChain s h j
  unfolding on_some_chain reached chain
  some-reached j t =
      let r = concat-member (chain s h) j h.states t in
      (r.0, r.1, chain-on r.0 _ _ (start r.0) j r.2)
    where
      start : (p : ℕ) → ((state_record s h p).first ≡ 0) ⊎ OnChain s h p (state_record s h p).first
      start p = elim (ℕ_discrete (state_record s h p).first 0) [ yes e ↦ inl e | no n ↦ inr (first (state_record s h p).first (omega (arith, n)) refl) ]

  reached-some : (j : ℕ) → OnSomeChain s h j → T (on_some_chain s h j)
  unfolding on_some_chain reached
  reached-some j r = member-concat (chain s h) j h.states r.0 r.1 (on_chain r.0 r.1 r.2)

  pub on-chain-iff : (j : ℕ) → T (on_some_chain s h j) ↔ OnSomeChain s h j
  on-chain-iff j = (some-reached j, reached-some j)
