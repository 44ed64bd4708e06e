-- `load_at_most` meets its contract, by the test of the bytes' length.
use mathlib.Core.Path.{sym, ◌∙◌}
use Rattle.carry.proofs.Bytes.{whole-few, loaded-none, loaded-whole}
use Rattle.carry.proofs.Values.{values-length}
use Rattle.carry.proofs.load_at_most.Goals as goal

pub returns-then-len-most : goal.returns-then-len-most
returns-then-len-most g c =
    let m = g.T.Number in
    rw (← values-length m.value m.values g.met.T.Number.each c.args.numbers.now) (loaded-none g.row.K c.args.most _ c.if-len-most.true _)

pub load-requires : goal.load-requires
load-requires g c =
    let m = g.T.Number in
    rw (← values-length m.value m.values g.met.T.Number.each c.args.numbers.now) (whole-few g.row.K c.args.most c.args.bytes.now c.requires.1 c.if-len-most.false)

pub returns : goal.returns
returns g c =
    let m = g.T.Number in
    let long = values-length m.value m.values g.met.T.Number.each in
    rw (← long c.args.numbers.now)
    (loaded-whole g.row.K c.args.most _ c.requires.1 c.if-len-most.false _ _ (long c.load.new.numbers ∙ c.load.auto.numbers ∙ sym (long c.args.numbers.now)) c.load.ensures)
