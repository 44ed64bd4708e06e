-- The library's `from_le_bytes` gives the number that the bytes carry.
use mathlib.Core.Path.{◌∙◌}
use borrow.Author.Rules.{rules}
use Rattle.carry.proofs.Endian.{bytes-number}
use Rattle.carry.proofs.U16Number2.from_bytes.Goals as goal

pub returns : goal.returns
returns c = c.from_le_bytes.ensures ∙ bytes-number c.args.bytes 1 (search rules)
