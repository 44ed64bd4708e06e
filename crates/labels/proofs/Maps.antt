-- The numbers of the second sheet's actions, one by one: a label that the first sheet has, and a new one.
use Prim.Native.Nat.{ℕ, ◌+◌, ◌≤◌, ◌<◌}
use native.Mathlib.Nat.{eq-or-lt_of_le}
use native.Mathlib.Numerals.{add-one}
use native.Mathlib.Omega.{arith}
use mathlib.Core.Path.{◌≡◌, sym, ap, ◌∙◌}
use mathlib.Core.Bool.{Bool, true, false, cond}
use mathlib.Core.Logic.{⊎_elim}
use mathlib.Core.List.{List, [], ◌∷◌}
use lib.Dec.{T}
use lib.ListN.{length, get_or, set, take, length-append, length-set}
use lib.Seq.{get_or-set_same, get_or-set_other}
use Rattle.lts.specs.Places.{among, distinct, place_in}
use Rattle.lts.specs.Labels.{same_label, joined_labels, joined_action}
use Rattle.lts.proofs.Below.{either, true-T, T_true}
use Rattle.lts.proofs.Places as places
use Rattle.lts.proofs.Labels.{label-tests, joined-none, joined-old, joined-new, joined-step-old, joined-step-new}
use Rattle.labels.specs.Maps.{Matches}

-- the first i labels of B are matched, and they bring the joined labels to this count
pub record Matching (A B : List (List ℕ)) (i count : ℕ) (to : List ℕ) : Type 0 where
  pub numbers : Matches A B i to
  pub counted : count ≡ length (joined_labels A (take i B))

pub matching-none : (A B : List (List ℕ)) {to : List ℕ} → length to ≡ 65 → Matching A B 0 (length A) to
matching-none A B long = record {
  numbers = record { long = long; action = λ b l m. absurd (omega (arith, l, m)) };
  counted = sym (ap (λ (J : List (List ℕ)). length J) (joined-none A B));
}

-- one action more
numbers_more : (A B : List (List ℕ)) (i : ℕ) {to to' : List ℕ} {v : ℕ} → Matches A B i to → i < 64 → to' ≡ set to (i + 1) v
    → v ≡ joined_action A B (i + 1) → Matches A B (i + 1) to'
numbers_more A B i {to} {to'} {v} had l new e = record {
  long = ap (λ (t : List ℕ). length t) new ∙ length-set to (i + 1) v ∙ had.long;
  action = λ b low high.
      let long = had.long in
      ap (λ (t : List ℕ). get_or t b 0) new ∙ ⊎_elim
      (λ (at : b ≡ i + 1).
      ap (λ (j : ℕ). get_or (set to (i + 1) v) j 0) at ∙ get_or-set_same to (i + 1) v 0 (omega (arith, l, long)) ∙ e ∙ ap (joined_action A B) (sym at))
      (λ (less : b < i + 1). get_or-set_other to (i + 1) b v 0 (λ at. omega (arith, at, less)) ∙ had.action b low (omega (arith, less)))
      (eq-or-lt_of_le high);
}

-- the label y is read and sought in the first sheet's: what is written for it
module _ (A B : List (List ℕ)) (few : length A ≤ 64) (i : ℕ) (l : i < length B) (low : i < 64) {y : List ℕ} (read : y ≡ get_or B i [])
    {place : ℕ} (sought : place ≡ cond (among same_label A y) (place_in same_label A y) 64)
    {count : ℕ} {to : List ℕ} (had : Matching A B i count to) where
  abbrev x : List ℕ
  x = get_or B i []

  placed : {b : Bool} → among same_label A x ≡ b → place ≡ cond b (place_in same_label A x) 64
  placed e =
      sought ∙ ap (λ (z : List ℕ). cond (among same_label A z) (place_in same_label A z) 64) read ∙ ap (λ (b : Bool). cond b (place_in same_label A x) 64) e

  there : place < 64 → T (among same_label A x)
  there h =
      ⊎_elim (λ (t : among same_label A x ≡ true). true-T (among same_label A x) t)
      (λ (t : among same_label A x ≡ false). let e = placed t in absurd (omega (arith, e, h)))
      (either (among same_label A x))

  missing : 64 ≤ place → T (among same_label A x) → ⊥
  missing h t =
      let e = placed (T_true (among same_label A x) t) in
      let p = (places.place-holds same_label label-tests [] A x t).0 in
      omega (arith, e, p, h, few)

  pub match-old : {count' : ℕ} {to' : List ℕ} → place < 64 → to' ≡ set to (i + 1) (place + 1) → count' ≡ count → Matching A B (i + 1) count' to'
  match-old h e same = record {
    numbers = numbers_more A B i had.numbers low e
        (ap (λ (p : ℕ). p + 1) (placed (T_true (among same_label A x) (there h))) ∙ add-one _ ∙ sym (joined-old A B i l (there h)));
    counted = same ∙ had.counted ∙ sym (ap (λ (J : List (List ℕ)). length J) (joined-step-old A B i l (there h)));
  }

  pub match-new : {count' : ℕ} {to' : List ℕ} → T (distinct same_label B) → 64 ≤ place → to' ≡ set to (i + 1) (count + 1) → count' ≡ count + 1
      → Matching A B (i + 1) count' to'
  match-new once h e more = record {
    numbers = numbers_more A B i had.numbers low e
        (ap (λ (p : ℕ). p + 1) had.counted ∙ add-one _ ∙ sym (joined-new A B i l once (missing h)));
    counted = more ∙ ap (λ (p : ℕ). p + 1) had.counted
        ∙ sym (ap (λ (J : List (List ℕ)). length J) (joined-step-new A B i l once (missing h)) ∙ length-append (joined_labels A (take i B)) (x ∷ []));
  }
