-- `conversion::convert` meets its contract: the front, then the records, where the buffer fits.
use mathlib.Core.Path.{ap, ◌∙◌}
use native.Mathlib.Omega.{arith}
use Rattle.encoding.specs.Records.{encoding_length}
use Rattle.conversion.proofs.Written.{records-room, converts}
use Rattle.conversion.proofs.Outcomes.{misfit, filled}
use Rattle.conversion.proofs.convert.Goals as goal

pub returns-then-out-length : goal.returns-then-out-length
returns-then-out-length c = misfit _ _ c.requires c.of_kind.ensures c.length.ensures c.if-out-length.true

pub copy_end-requires : goal.copy_end-requires
copy_end-requires c =
    let at = c.state_at.ensures in
    let long = c.if-out-length.false ∙ c.length.ensures ∙ ap encoding_length c.of_kind.ensures in
    let kept = c.put_front.auto.out in
    (omega arith, omega (arith, at, kept, records-room c.requires.recorded.sized c.args.named c.args.out.now long))

pub returns : goal.returns
returns c =
    let kind = c.of_kind.ensures in
    let long = c.length.ensures in
    let fit = c.if-out-length.false in
    filled _ _ c.requires kind long fit
    (converts _ c.requires _ (fit ∙ long ∙ ap encoding_length kind) c.state_at.ensures c.put_front.ensures c.copy_end.ensures)
