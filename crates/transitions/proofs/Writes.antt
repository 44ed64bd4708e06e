-- What a table holds after it is written to. Assumes nothing.
use Prim.Native.Nat.{ℕ, zero, suc, ◌+◌, ◌<◌}
use mathlib.Core.Path.{◌≡◌, refl, sym, ap, ◌∙◌}
use mathlib.Core.List.{List, [], ◌∷◌, ◌++◌, append_assoc, append-nil}
use native.Mathlib.Omega.{arith}
use native.Mathlib.Nat.{add-zero, add_assoc}
use native.Mathlib.Numerals.{add-one}
use lib.ListN.{length, get_or, set, length-set, length-append}
use lib.Seq.{get_or-set_same, get_or-set_other}
use Rattle.lts.specs.Bounded.{concat_below}
use Rattle.lts.specs.Transitions.{Transition}
use Rattle.lts.proofs.Lists.{concat-more, concat-same, concat-at}
use Rattle.lts.proofs.Transitions.{nth}
use Rattle.transitions.specs.Table.{source_at, action_at, target_at, entry_at, table_transitions}
use Rattle.transitions.specs.Filling.{with_transition, Extends}

-- ---- the list of the first transitions

module _ (t : List ℕ) where
  pub table_more : (k : ℕ) → table_transitions t (k + 1) ≡ table_transitions t k ++ (entry_at t k ∷ [])
  unfolding table_transitions
  table_more k = concat-more (λ i. entry_at t i ∷ []) k

  pub table-length : (k : ℕ) → length (table_transitions t k) ≡ k
  unfolding table_transitions concat_below
  table-length zero = refl
  table-length (suc k) = length-append (table_transitions t k) (entry_at t k ∷ []) ∙ ap (λ (x : ℕ). x + 1) (table-length k) ∙ add-one k

  pub table-nth : (k i : ℕ) → i < k → nth (table_transitions t k) i ≡ entry_at t i
  unfolding nth table_transitions
  table-nth k i h =
      let at : length (table_transitions t i) + 0 ≡ i = add-zero _ ∙ table-length i in
      sym (ap (λ (j : ℕ). get_or (table_transitions t k) j (record { source = 0; action = 0; target = 0 })) at)
      ∙ concat-at (λ i. entry_at t i ∷ []) _ k i 0 h (omega arith)

pub table_same : (k : ℕ) (t u : List ℕ) → ((i : ℕ) → i < k → entry_at t i ≡ entry_at u i) → table_transitions t k ≡ table_transitions u k
unfolding table_transitions
table_same k t u same = concat-same k _ _ (λ i h. ap (λ (v : Transition). v ∷ []) (same i h))

-- ---- one transition is written

module _ (t : List ℕ) (long : length t ≡ 3588) (i p a q : ℕ) (room : i < 1024) where
  abbrev t₁ : List ℕ
  t₁ = set t (516 + i) p

  abbrev t₂ : List ℕ
  t₂ = set (set t (516 + i) p) (1540 + i) a

  long₁ : length t₁ ≡ 3588
  long₁ = length-set t (516 + i) p ∙ long

  long₂ : length t₂ ≡ 3588
  long₂ = length-set t₁ (1540 + i) a ∙ long₁

  pub put-long : length (with_transition t i p a q) ≡ 3588
  put-long = length-set t₂ (2564 + i) q ∙ long₂

  -- what is at another place stays
  other : (j : ℕ) → (j ≡ 516 + i → ⊥) → (j ≡ 1540 + i → ⊥) → (j ≡ 2564 + i → ⊥) → get_or (with_transition t i p a q) j 0 ≡ get_or t j 0
  other j x y z = get_or-set_other t₂ (2564 + i) j q 0 z ∙ get_or-set_other t₁ (1540 + i) j a 0 y ∙ get_or-set_other t (516 + i) j p 0 x

  pub put-head : (j : ℕ) → j < 516 → get_or (with_transition t i p a q) j 0 ≡ get_or t j 0
  put-head j h = other j (λ e. omega arith) (λ e. omega arith) (λ e. omega arith)

  pub put_other : (j : ℕ) → j < i → entry_at (with_transition t i p a q) j ≡ entry_at t j
  put_other j h = λ x. record {
    source = other (516 + j) (λ e. omega (arith, e)) (λ e. omega (arith, e)) (λ e. omega (arith, e)) x;
    action = other (1540 + j) (λ e. omega (arith, e)) (λ e. omega (arith, e)) (λ e. omega (arith, e)) x;
    target = other (2564 + j) (λ e. omega (arith, e)) (λ e. omega (arith, e)) (λ e. omega (arith, e)) x;
  }

  pub put-own : entry_at (with_transition t i p a q) i ≡ record { source = p; action = a; target = q }
  put-own =
      let in₀ : 516 + i < length t = omega (arith, long) in
      let in₁ : 1540 + i < length t₁ = omega (arith, long₁) in
      let in₂ : 2564 + i < length t₂ = omega (arith, long₂) in
      let source : source_at (with_transition t i p a q) i ≡ p =
      get_or-set_other t₂ (2564 + i) (516 + i) q 0 (λ e. omega (arith, e)) ∙ get_or-set_other t₁ (1540 + i) (516 + i) a 0 (λ e. omega (arith, e)) ∙ get_or-set_same t (516 + i) p 0 in₀ in
      let action : action_at (with_transition t i p a q) i ≡ a =
      get_or-set_other t₂ (2564 + i) (1540 + i) q 0 (λ e. omega (arith, e)) ∙ get_or-set_same t₁ (1540 + i) a 0 in₁ in
      let target : target_at (with_transition t i p a q) i ≡ q = get_or-set_same t₂ (2564 + i) q 0 in₂ in
      λ x. record { source = source x; action = action x; target = target x }

  pub extends-one : Extends (record { source = p; action = a; target = q } ∷ []) i t (with_transition t i p a q)
  extends-one = record {
    long = put-long ∙ sym long;
    list = table_more (with_transition t i p a q) i
        ∙ ap (λ (l : List Transition). l ++ (entry_at (with_transition t i p a q) i ∷ [])) (table_same i (with_transition t i p a q) t put_other)
        ∙ ap (λ (v : Transition). table_transitions t i ++ (v ∷ [])) put-own;
    head = put-head;
  }

-- ---- transitions written one after the other

pub extends-none : (i : ℕ) (t : List ℕ) → Extends [] i t t
extends-none i t = record {
  long = refl;
  list = ap (table_transitions t) (add-zero i) ∙ sym (append-nil (table_transitions t i));
  head = λ j h. refl;
}

pub extends-append : {t₀ t₁ t₂ : List ℕ} (i : ℕ) (vs ws : List Transition) → Extends vs i t₀ t₁ → Extends ws (i + length vs) t₁ t₂ → Extends (vs ++ ws) i t₀ t₂
extends-append {t₀} {t₁} {t₂} i vs ws f g = record {
  long = g.long ∙ f.long;
  list = ap (table_transitions t₂) (ap (λ (x : ℕ). i + x) (length-append vs ws) ∙ sym (add_assoc i (length vs) (length ws)))
      ∙ g.list ∙ ap (λ (l : List Transition). l ++ ws) f.list ∙ append_assoc (table_transitions t₀ i) vs ws;
  head = λ j h. g.head j h ∙ f.head j h;
}
