-- `strategy::write_on_table` meets its contract: by what the search for the round found.
use Rattle.transitions.specs.Table.{table_lts}
use Rattle.strategy.proofs.Writes.{still-related, too_short, room, written}
use Rattle.strategy.proofs.write_on_table.Goals as goal

pub returns-in_default : goal.returns-in_default
returns-in_default c = still-related _ _ _ _ _ c.in_default.ensures

pub returns-then-numbers-found : goal.returns-then-numbers-found
returns-then-numbers-found c = too_short _ _ _ _ _ c.in-Some.ensures c.if-numbers-found.true

pub write_table-requires : goal.write_table-requires
unfolding table_lts
write_table-requires c = let f = c.in-Some.ensures in
    (c.requires.0, c.requires.1, c.requires.2, c.requires.3, f.round, f.bound, room c.args.table.now _ _ _ _ f c.if-numbers-found.false)

pub returns : goal.returns
returns c = written _ _ _ _ _ c.in-Some.ensures c.if-numbers-found.false c.write_table.ensures
