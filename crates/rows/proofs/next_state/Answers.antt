-- `rows::next_state` meets its contract: by the trailing zeros of the first rest of a word that is not 0. Assumes nothing.
use mathlib.Core.Path.{◌≡◌, ap, ◌∙◌}
use mathlib.Core.Logic.{⊎_elim}
use Prim.Native.Nat.{◌≤◌, ◌<◌, ◌+◌, ◌-◌, ◌/◌, ◌%◌}
use Rattle.lts.proofs.Below.{lt-or-ge}
use native.Mathlib.Omega.{arith}
use lib.Count.{count_trailing_zeros}
use Rattle.rows.specs.Rows.{in_row}
use Rattle.rows.proofs.Counts.{rest, rest-none, rest_lt, rest_at, rest-before}
use borrow.Author.Rules.{rules}
use Rattle.rows.proofs.next_state.Goals as goal

pub loop-q-init : goal.loop-q-init
loop-q-init c = (search rules, search rules, λ i l h. absurd (omega (arith, l, h)))

-- the lowest one of a rest that is not 0 is in its word
low : (c : goal.Then-x-ne0) → c.loop-q.q % 64 + count_trailing_zeros 64 (rest c.args.row.now c.loop-q.q) < 64
low c =
    rest_lt c.args.row.now c.loop-q.q (c.type_inv.row (c.loop-q.q / 64)).fits c.if-x-ne0.true

pub overflow_cast-result : goal.overflow_cast-result
overflow_cast-result c = omega (arith, low c)

pub overflow_add-result : goal.overflow_add-result
overflow_add-result c = omega (arith, low c)

pub returns-then-x-ne0 : goal.returns-then-x-ne0
returns-then-x-ne0 c =
    let row = c.args.row.now in
    let q = c.loop-q.q in
    let fits = (c.type_inv.row (q / 64)).fits in
    record {
      above = omega (arith, low c);
      below = omega (arith, low c);
      none = λ i l h. ⊎_elim (λ (b : i < q). c.loop-q.invariant.2 i l b) (λ (b : q ≤ i).
          let split : i ≡ q + (i - q) = omega arith in
          ap (in_row row) split ∙ rest-before row q fits c.if-x-ne0.true (i - q) (omega (arith, h))) (lt-or-ge i q);
      member = λ _. rest_at row q fits c.if-x-ne0.true;
    }

pub loop-q-preserved : goal.loop-q-preserved
loop-q-preserved c =
    let row = c.args.row.now in
    let q = c.loop-q.q in (
      search rules,
      search rules,
      λ i l h. ⊎_elim (λ (b : i < q). c.loop-q.invariant.2 i l b) (λ (b : q ≤ i).
          let split : i ≡ q + (i - q) = omega arith in
          ap (in_row row) split ∙ rest-none row q c.if-x-ne0.false (i - q) (omega (arith, h))) (lt-or-ge i q),
    )

pub returns : goal.returns
returns c =
    record {
      above = c.loop-q.invariant.0;
      below = c.loop-q.invariant.1;
      none = c.loop-q.invariant.2;
      member = λ h. absurd (omega (arith, h));
    }
