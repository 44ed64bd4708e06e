-- `conditions::pair_passes` meets its contract: the second condition is tested where the first is met. Assumes nothing.
use Rattle.lts.proofs.Below.{true-T}
use Rattle.transitions.proofs.Entries.{table-formed}
use Rattle.conditions.proofs.Pairs.{premise-met, starting-fails, transfer-decides}
use borrow.Author.Rules.{rules}
use Rattle.conditions.proofs.pair_passes.Goals as goal

-- the premise of the second condition is searched for, and found where the first has passed before
pub transfer_condition-requires : goal.transfer_condition-requires
transfer_condition-requires c = record { formed = search rules; starting = search premise-met depth 1 }

pub returns-then-starting_condition : goal.returns-then-starting_condition
returns-then-starting_condition c =
    transfer-decides _ _ _ _ _ (table-formed c.args.table.now c.requires.formed.0) (c.starting_condition.ensures.0 (true-T _ c.if-starting_condition.true)) _ c.transfer_condition.ensures

pub returns : goal.returns
returns c = starting-fails _ _ _ _ _ c.starting_condition.result c.starting_condition.ensures c.if-starting_condition.false
