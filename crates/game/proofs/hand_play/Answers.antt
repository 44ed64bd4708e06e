-- `game::hand_play` meets its contract, by the cases of the reading and of the tests.
use mathlib.Core.Path.{◌≡◌}
use native.Mathlib.Omega.{arith}
use Rattle.std.proofs.Common.{rules, Ok, Err}
use Rattle.inputs.specs.Inputs.{read_pair}
use Rattle.relation.proofs.Checks.{checked-matrix}
use Rattle.game.proofs.Plays.{unread, too_many, playable, played}
use Rattle.game.proofs.hand_play.Goals as goal

pub returns-in_err-h : goal.returns-in_err-h
returns-in_err-h c =
    let e : read_pair c.args.s.now c.args.start.now c.args.p c.args.q ≡ Err c.in_err-h.field-0.0 = search rules in
    let whole = unread _ _ _ _ _ c.from_residual.result e c.from_residual.ensures.1 in
    record { rounds_value = whole.0; play_promise = whole.1 }

pub returns-then-rounds-gt6 : goal.returns-then-rounds-gt6
returns-then-rounds-gt6 c =
    let e : read_pair c.args.s.now c.args.start.now c.args.p c.args.q ≡ Ok c.in_ok-h.h = search rules in
    let whole = too_many _ _ _ _ _ e c.if-rounds-gt6.true in
    record { rounds_value = whole.0; play_promise = whole.1 }

pub wins_readable-requires : goal.wins_readable-requires
wins_readable-requires c =
    let e : read_pair c.args.s.now c.args.start.now c.args.p c.args.q ≡ Ok c.in_ok-h.h = search rules in
    let k = playable _ _ _ _ e in
    let l = k.1 in
    let m = k.2 in
    (k.0.readable, checked-matrix _ _ k.0.checked, omega arith, omega arith, c.if-rounds-gt6.false)

pub returns : goal.returns
returns c =
    let e : read_pair c.args.s.now c.args.start.now c.args.p c.args.q ≡ Ok c.in_ok-h.h = search rules in
    let whole = played _ _ _ _ _ e c.if-rounds-gt6.false _ c.wins_readable.ensures in
    record { rounds_value = whole.0; play_promise = whole.1 }
