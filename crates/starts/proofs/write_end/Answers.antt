-- `starts::write_end` meets its contract: the relation of the table's terminating states. Assumes nothing.
use Prim.Native.Nat.{ℕ, ◌*◌}
use mathlib.Core.Path.{sym, ap, ◌∙◌}
use native.Mathlib.Omega.{arith}
use Rattle.lts.specs.Bounded.{◌⇒◌}
use Rattle.rows.specs.Rows.{in_row, row_words}
use Rattle.relation.specs.Matrix.{matrix_of}
use Rattle.relation.proofs.Starts.{termination-written}
use Rattle.transitions.specs.Table.{states_of, table_lts}
use Rattle.transitions.proofs.Lookups.{terminating-clear}
use Rattle.starts.proofs.write_end.Goals as goal

pub write_termination-requires : goal.write_termination-requires
write_termination-requires c =
    let t = c.args.table.now in
    let states = c.states-n.ensures.0 in record { n_bound = (omega (arith, states, c.requires.0.states), c.requires.1 ∙ ap (λ (x : ℕ). x * row_words x) (sym states)); by_index = λ q l h. terminating-clear t c.terminating-terminating.ensures q (omega (arith, l, states)) h }

pub returns : goal.returns
returns c =
    let t = c.args.table.now in
    c.write_termination.ensures
    ∙ ap (λ (n : ℕ). matrix_of n (λ p q. in_row c.terminating-terminating.result p ⇒ in_row c.terminating-terminating.result q)) c.states-n.ensures.0
    ∙ termination-written (states_of t) (table_lts t) c.requires.0.states c.terminating-terminating.ensures
