-- Compare's yes, in either form, depends on the transitions by name alone: not on the numbers that a sheet gives its actions (document 02, L2).
-- `end-labelled` and `ready-labelled` (lts/proofs/ByLabel.antt) say so of its two starts.
use Prim.Native.Nat.{ℕ, ◌≤◌}
use mathlib.Core.Path.{◌≡◌, sym, ap, subst, ◌∙◌}
use mathlib.Core.Bool.{Bool, cond}
use mathlib.Core.List.{List, [], ◌∷◌}
use Rattle.lts.specs.System.{Rel, Lts}
use Rattle.lts.specs.Mapped.{mapped}
use Rattle.lts.specs.Labels.{label_of, SameByLabel}
use Rattle.lts.specs.Rule.{Nothing, broken, given}
use Rattle.lts.proofs.ByLabel.{LabelledStart, same_self, renumbered-same, same_answer}
use Rattle.encoding.specs.Labels.{labels_of}
use Rattle.encoding.specs.Denotation.{lts_of}
use Rattle.inputs.specs.Both.{both_rules}
use Rattle.comparison.specs.Call.{compare_call}
use Rattle.comparison.proofs.Promise.{one, two, yes-is}

module _ {start : Lts → Rel} (by : LabelledStart start) (first second first' second' : List ℕ) (kept : broken (both_rules first second) ≡ Nothing) (kept' : broken (both_rules first' second') ≡ Nothing) where
  -- sheets with the same transitions by name have the same yes
  pub same-yes : SameByLabel (labels_of first) (lts_of first) (labels_of first') (lts_of first')
      → SameByLabel (labels_of second) (lts_of second) (labels_of second') (lts_of second')
      → {yes turns yes' turns' : ℕ} → compare_call start first second ≡ given (yes ∷ turns ∷ []) → compare_call start first' second' ≡ given (yes' ∷ turns' ∷ [])
      → yes ≡ yes'
  same-yes a b e e' =
      let o = one first second kept in
      let t = two first second kept in
      let o' = one first' second' kept' in
      let t' = two first' second' kept' in
      let same = same_answer by (labels_of first) (labels_of second) (labels_of first') (labels_of second') (lts_of first) (lts_of second) (lts_of first') (lts_of second')
      o.formed t.formed o'.formed t'.formed o.labels t.labels o'.labels t'.labels a b in
      yes-is start first second kept e ∙ ap (λ (x : Bool). cond x 1 0) same ∙ sym (yes-is start first' second' kept' e')

-- the actions of s renumbered, with their names carried along, give t
pub record Renumbered (s t : List ℕ) : Type 0 where
  pub to : ℕ → ℕ
  pub flow : lts_of t ≡ mapped (lts_of s).states (lts_of t).actions (λ p. p) to (lts_of s)
  pub names : (b : ℕ) → 1 ≤ b → b ≤ (lts_of s).actions → label_of (labels_of t) (to b) ≡ label_of (labels_of s) b

-- compare's yes does not depend on how the second sheet numbers its actions
pub renumbered-yes : {start : Lts → Rel} → LabelledStart start → (first second second' : List ℕ) → broken (both_rules first second) ≡ Nothing → broken (both_rules first second') ≡ Nothing
    → Renumbered second second'
    → {yes turns yes' turns' : ℕ} → compare_call start first second ≡ given (yes ∷ turns ∷ []) → compare_call start first second' ≡ given (yes' ∷ turns' ∷ [])
    → yes ≡ yes'
renumbered-yes by first second second' kept kept' new =
    let M = lts_of second in
    let image = renumbered-same (labels_of second) (labels_of second') (lts_of second').actions new.to M (two first second kept).formed new.names in
    same-yes by first second first second' kept kept' (same_self (labels_of first) (lts_of first))
    (subst (λ (N : Lts). SameByLabel (labels_of second) M (labels_of second') N) (sym new.flow) image)
