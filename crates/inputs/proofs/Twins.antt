-- A plain sheet and the named sheet with decimal names of the same records break the same rules, in every list that begins with the sheet's
-- (document 02, L2).
use Prim.Native.Nat.{ℕ, ◌+◌}
use mathlib.Core.Path.{◌≡◌, refl, sym, ap, ap₂, ◌∙◌}
use mathlib.Core.Logic.{⊎_elim}
use mathlib.Core.Bool.{◌&&◌}
use mathlib.Core.List.{List, [], ◌∷◌, ◌++◌}
use lib.Dec.{leb, ltb}
use lib.ListN.{length}
use Rattle.lts.specs.declared.Refusal.{Refusal}
use Rattle.lts.specs.Labels.{joined_labels}
use Rattle.lts.specs.declared.Refusal.TheVariants.{TooLarge, TooManyLabels, NoState}
use Rattle.lts.specs.Rule.{Rule, ◌otherwise◌, broken, checked}
use Rattle.lts.proofs.Rule.{first_part, second-part, refuses, passes, finding}
use Rattle.encoding.specs.Records.{header_of}
use Rattle.encoding.specs.Labels.{labels_of}
use Rattle.encoding.specs.Encoding.{sheet_rules}
use Rattle.encoding.proofs.Twins.{Twins, twin-labels, twin-broken}
use Rattle.relation.specs.Check.{start_rules}
use Rattle.inputs.specs.Inputs.{input_rules, pair_rules}
use Rattle.inputs.specs.Both.{fits, joint_rules, both_rules}

-- ## Lists of rules of which the same is broken
pub append-same : (xs xs' ys ys' : List Rule) → broken xs ≡ broken xs' → broken ys ≡ broken ys' → broken (xs ++ ys) ≡ broken (xs' ++ ys')
append-same xs xs' ys ys' e f = ⊎_elim
    (λ k. second-part xs ys k ∙ f ∙ sym (second-part xs' ys' (sym e ∙ k)))
    (λ q. first_part xs ys q.1 ∙ sym (first_part xs' ys' (sym e ∙ q.1)))
    (finding xs)

pub checked-same : {A : Type 0} (xs ys : List Rule) (refuse : Refusal → A) {x y : A} → broken xs ≡ broken ys → x ≡ y → checked xs refuse x ≡ checked ys refuse y
checked-same xs ys refuse {x} {y} e f = ⊎_elim
    (λ k. passes xs refuse x k ∙ f ∙ sym (passes ys refuse y (sym e ∙ k)))
    (λ q. refuses xs refuse x q.1 ∙ sym (refuses ys refuse y (sym e ∙ q.1)))
    (finding xs)

-- ## Of twins
module _ {s t : List ℕ} (w : Twins s t) where
  pub inputs-same : (start : List ℕ) → broken (input_rules s start) ≡ broken (input_rules t start)
  unfolding input_rules
  inputs-same start =
      append-same (sheet_rules s) (sheet_rules t) (start_rules (header_of s).states start) (start_rules (header_of t).states start) (twin-broken w)
      (ap (λ (n : ℕ). broken (start_rules n start)) w.states)

  pub pair_same : (start : List ℕ) (p q : ℕ) → broken (pair_rules s start p q) ≡ broken (pair_rules t start p q)
  unfolding pair_rules
  pair_same start p q = append-same (input_rules s start) (input_rules t start) _ _ (inputs-same start) (ap (λ (n : ℕ). broken ((ltb p n && ltb q n) otherwise NoState ∷ [])) w.states)

  -- as the first sheet, and as the second
  pub first-same : (second : List ℕ) → broken (both_rules s second) ≡ broken (both_rules t second)
  unfolding both_rules joint_rules fits
  first-same second =
      append-same (sheet_rules s ++ sheet_rules second) (sheet_rules t ++ sheet_rules second) _ _
      (append-same (sheet_rules s) (sheet_rules t) (sheet_rules second) (sheet_rules second) (twin-broken w) refl)
      (ap₂ (λ (n k : ℕ). broken (joint n k (labels_of s))) w.states w.transitions ∙ ap (λ (l : List (List ℕ)). broken (joint (header_of t).states (header_of t).transitions l)) (twin-labels w))
    where
      joint : ℕ → ℕ → List (List ℕ) → List Rule
      joint n k l =
          (leb (n + (header_of second).states) 256 && leb (k + (header_of second).transitions) 1024) otherwise TooLarge
          ∷ leb (length (joined_labels l (labels_of second))) 64 otherwise TooManyLabels
          ∷ []

  pub second-same : (first : List ℕ) → broken (both_rules first s) ≡ broken (both_rules first t)
  unfolding both_rules joint_rules fits
  second-same first =
      append-same (sheet_rules first ++ sheet_rules s) (sheet_rules first ++ sheet_rules t) _ _
      (append-same (sheet_rules first) (sheet_rules first) (sheet_rules s) (sheet_rules t) refl (twin-broken w))
      (ap₂ (λ (n k : ℕ). broken (joint n k (labels_of s))) w.states w.transitions ∙ ap (λ (l : List (List ℕ)). broken (joint (header_of t).states (header_of t).transitions l)) (twin-labels w))
    where
      joint : ℕ → ℕ → List (List ℕ) → List Rule
      joint n k l =
          (leb ((header_of first).states + n) 256 && leb ((header_of first).transitions + k) 1024) otherwise TooLarge
          ∷ leb (length (joined_labels (labels_of first) l)) 64 otherwise TooManyLabels
          ∷ []
