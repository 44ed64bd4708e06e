-- `normal_form::write_transitions` meets its contract: what is left to be written are the records from i on.
use Prim.Native.Nat.{ℕ, ◌≤◌, ◌<◌, ◌+◌, ◌-◌}
use mathlib.Core.Path.{◌≡◌, sym, ◌∙◌}
use native.Mathlib.Nat.{add-zero}
use native.Mathlib.Omega.{arith}
use Rattle.transitions.specs.Table.{count_of}
use Rattle.normal_form.proofs.Written.{transitions-step, transitions-end}
use Rattle.normal_form.proofs.write_transitions.Goals as goal

sub_back : (i : ℕ) → i + 1 - 1 ≡ i
sub_back i = omega arith

pub loop-i-preserved : goal.loop-i-preserved
loop-i-preserved c = let more : c.loop-i.i < count_of c.args.table.now = omega arith in
    transitions-step c.args.table.now c.requires.0 _ c.loop-i.i _ _ more c.table_transition.ensures (c.put.ensures ∙ rw (c.transition_at.ensures, sub_back c.loop-i.i)) ∙ c.loop-i.invariant

pub returns : goal.returns
returns c = let done : count_of c.args.table.now ≤ c.loop-i.i = omega arith in
    rw (add-zero) (sym (transitions-end c.args.table.now c.requires.0 _ c.loop-i.i _ done) ∙ c.loop-i.invariant)
