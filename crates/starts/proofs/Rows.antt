-- Row p of the ready start, made of the states with p's word; and that row in the matrix.
use Prim.Native.Nat.{ℕ, ◌≤◌, ◌<◌}
use native.Mathlib.Omega.{arith}
use mathlib.Core.Path.{◌≡◌, refl, sym, ap, ◌∙◌}
use mathlib.Core.Logic.{⊎_elim}
use mathlib.Core.Bool.{Bool, true, false, ◌&&◌}
use mathlib.Core.List.{List, ◌++◌}
use lib.Dec.{ltb}
use lib.ListN.{length, get_or, drop}
use Rattle.lts.specs.Bounded.{◌⇒◌}
use Rattle.lts.specs.Ready.{ready_preorder}
use Rattle.lts.proofs.Below.{lt-or-ge, length-list_below}
use Rattle.rows.specs.Rows.{in_row, row_of, row_words, states_below}
use Rattle.rows.proofs.Rows.{row_of-cong, row-whole, in_row-of, states-in, states-out}
use Rattle.transitions.specs.Table.{states_of, table_lts, Formed}
use Rattle.transitions.proofs.Entries.{table-formed}
use Rattle.transitions.proofs.Lookups.{terminating-at}
use Rattle.starts.specs.Start.{action_bits, same_set, ready_row}
use Rattle.starts.proofs.Words.{ready-row}

-- ## Row p of the ready start
module _ (ends words : List ℕ) (n p : ℕ) {row : List ℕ} (is : row ≡ row_of 4 (states_below n (λ q. same_set (get_or words p 0) (get_or words q 0)))) where
  pub row-whole-kept : in_row ends p ≡ false → row ≡ row_of 4 (states_below n (ready_row ends words p))
  row-whole-kept e = is ∙ row_of-cong 4 _ _ (λ q h. rw e)

  pub row-ended : {after : List ℕ} → after ≡ row_of 4 (λ q. in_row row q && in_row ends q) ++ drop 4 row → in_row ends p ≡ true
      → after ≡ row_of 4 (states_below n (ready_row ends words p))
  row-ended written e =
      written ∙ row-whole 4 _ row (ap length is ∙ length-list_below 4 _)
      ∙ row_of-cong 4 _ _ (λ q h.
      ap (λ (b : Bool). b && in_row ends q) (ap (λ (l : List ℕ). in_row l q) is ∙ in_row-of 4 _ q h)
      ∙ rw e (turn (ltb q n) (same_set (get_or words p 0) (get_or words q 0)) (in_row ends q)))
    where
      turn : (a b c : Bool) → (a && b) && c ≡ a && ((true ⇒ c) && b)
      turn true true true = refl
      turn true true false = refl
      turn true false true = refl
      turn true false false = refl
      turn false b c = refl

-- the row of a table's words, in a matrix's row
pub row-of-table : (t : List ℕ) → Formed t → {n w p : ℕ} {ends words row : List ℕ} → n ≡ states_of t → w ≡ row_words n → p < n
    → ends ≡ row_of 4 (table_lts t).terminating → words ≡ row_of 256 (action_bits (table_lts t)) → row ≡ row_of 4 (states_below n (ready_row ends words p))
    → row_of w (in_row row) ≡ row_of w (states_below n (ready_preorder (table_lts t) p))
unfolding table_lts
row-of-table t ok {n} {w} {p} {ends} {words} states width hp terminating bits is =
    let few : n ≤ 256 = omega (arith, states, ok.states) in
    row_of-cong w _ _ (λ q h.
    ap (λ (l : List ℕ). in_row l q) is ∙ in_row-of 4 _ q (omega (arith, h, width, few))
    ∙ ⊎_elim
    (λ (l : q < n). states-in n (ready_row ends words p) q l
    ∙ ready-row (table_lts t) (table-formed t ok) ok.labels bits ends (terminating-at t terminating) p q (omega (arith, hp, few)) (omega (arith, l, few))
    ∙ sym (states-in n (ready_preorder (table_lts t) p) q l))
    (λ (l : n ≤ q). states-out n (ready_row ends words p) q l ∙ sym (states-out n (ready_preorder (table_lts t) p) q l))
    (lt-or-ge q n))
