-- The answers to the transitions of a table, number by number, and the transfer condition. Assumes nothing.
use Prim.Native.Nat.{ℕ, ◌+◌, ◌*◌, ◌≤◌, ◌<◌}
use mathlib.Core.Path.{◌≡◌, refl, sym, ap, ap₂, ◌∙◌, fun_ext}
use mathlib.Core.Logic.{◌↔◌, ⊎_elim}
use mathlib.Core.Bool.{Bool, true, false}
use mathlib.Core.List.{List}
use native.Mathlib.Omega.{arith}
use lib.Dec.{T, eqb, eqb→eq}
use lib.ListN.{drop}
use borrow.Author.Tests.{not-true, not-false}
use Rattle.lts.specs.System.{Set, Rel, Lts, into}
use Rattle.lts.proofs.System.{into-to, into-from}
use Rattle.lts.proofs.Below.{lt-or-ge, clash, true-T, T_true}
use Rattle.rows.specs.Rows.{in_row, row_words, Next}
use Rattle.transitions.specs.Table.{states_of, offset_at, action_at, target_at, table_lts, Formed}
use Rattle.transitions.proofs.Entries.{eqb_of, InRow, Between, row-transition, transition-row, table-formed}
use Rattle.relation.specs.Matrix.{relation_of}
use Rattle.relation.proofs.Matrices.{in_row-drop}
use Rattle.conditions.specs.Conditions.{Transfer, answered_by, unanswered_by}

-- an answer by q to number i, looked up in the row of its target
pub answer-row : (t g : List ℕ) (q i : ℕ) {n a x : ℕ} {row : List ℕ} {r : Bool} → n ≡ states_of t → a ≡ action_at t i → x ≡ target_at t i
    → row ≡ drop (x * row_words n) g → r ≡ into (table_lts t) a (in_row row) q → r ≡ answered_by t (relation_of (states_of t) g) q i
unfolding answered_by
answer-row t g q i {n} {a} {x} {row} en ea ex at e =
    e ∙ ap₂ (λ (b : ℕ) (X : Set). into (table_lts t) b X q) ea
    (ap in_row (at ∙ ap₂ (λ (y k : ℕ). drop (y * row_words k) g) ex en) ∙ fun_ext (λ y. in_row-drop (row_words (states_of t)) g (target_at t i) y))

module _ (t : List ℕ) (ok : Formed t) (R : Rel) (p q : ℕ) (hp : p < states_of t) where
  abbrev L : Lts
  L = table_lts t

  -- q answers every number of p's row
  pub transfer-all : Between (λ i. answered_by t R q i ≡ true) (offset_at t p) (offset_at t (p + 1)) → Transfer L R p q
  unfolding answered_by
  transfer-all all a x move =
      let i = transition-row t ok p hp a x (T_true _ move) in
      into-to L a (R x) q (true-T _ (sym (ap₂ (λ (b y : ℕ). into L b (R y) q) i.2 i.3) ∙ all i.0 i.1.0 i.1.1))

  -- it does not answer one
  transfer-not : (i : ℕ) → InRow t ok p i → answered_by t R q i ≡ false → Transfer L R p q → ⊥
  unfolding answered_by
  transfer-not i r e h =
      clash (T_true _ (into-from (table-formed t ok) (action_at t i) (R (target_at t i)) q (h (action_at t i) (target_at t i) (true-T _ (row-transition t ok p hp i r refl refl))))) e

  -- the first that it does not answer is none
  pub transfer-iff : {r end : ℕ} → end ≡ offset_at t (p + 1) → Next (unanswered_by t R q) (offset_at t (p + 1)) (offset_at t p) r → T (eqb r end) ↔ Transfer L R p q
  transfer-iff {r} {end} e next = (
    λ d. let last = eqb→eq r end d in transfer-all (λ i l h. not-false _ (next.none i l (omega (arith, last, e, h)))),
    λ h. ⊎_elim (λ (l : r < offset_at t (p + 1)). absurd (transfer-not r (next.above, l) (not-true _ (next.member l)) h))
        (λ (l : offset_at t (p + 1) ≤ r). eqb_of {x = r} {y = end} (omega (arith, l, e, next.below))) (lt-or-ge r (offset_at t (p + 1))),
  )
