-- The table of a sheet that was read: its system and its states are the sheet's, and the start is a reflexive matrix on them.
use Prim.Native.Nat.{ℕ}
use mathlib.Core.Path.{◌≡◌, refl, ◌∙◌, ap₂, subst⁻¹}
use mathlib.Core.List.{List}
use lib.Dec.{T}
use Rattle.lts.specs.System.{Lts, reflexive}
use Rattle.encoding.specs.declared.Header.{Header}
use Rattle.encoding.specs.Denotation.{lts_of}
use Rattle.transitions.specs.Table.{states_of, table_lts, Holds}
use Rattle.transitions.proofs.Filled.{sheet-states}
use Rattle.relation.specs.Matrix.{relation_of, Matrix}
use Rattle.relation.proofs.Checks.{checked-matrix, checked-reflexive}
use Rattle.inputs.specs.Inputs.{Ready}

table-states : (t : List ℕ) → (table_lts t).states ≡ states_of t
unfolding table_lts
table-states t = refl

module _ (s : List ℕ) (h : Header) (start : List ℕ) (ready : Ready s h start) {t : List ℕ} (k : Holds (lts_of s) t) where
  pub loaded-states : states_of t ≡ h.states
  loaded-states = sheet-states s h ready.readable k

  -- what is made of the table's system and its count of states
  pub loaded-same : {A : Type 0} (f : Lts → ℕ → A) → f (table_lts t) (states_of t) ≡ f (lts_of s) h.states
  loaded-same f = ap₂ f k.same loaded-states

  pub loaded-matrix : Matrix (states_of t) start
  loaded-matrix = subst⁻¹ (λ (n : ℕ). Matrix n start) loaded-states (checked-matrix h.states start ready.checked)

  pub loaded-reflexive : T (reflexive (table_lts t) (relation_of (states_of t) start))
  loaded-reflexive =
      subst⁻¹ (λ (n : ℕ). T (reflexive (table_lts t) (relation_of n start))) loaded-states
      (checked-reflexive h.states start ready.checked (table_lts t) (table-states t ∙ loaded-states))
