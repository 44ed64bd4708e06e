-- The library's `to_le_bytes` gives the bytes that carry the number.
use mathlib.Core.Path.{ap, ◌∙◌}
use Prim.Native.Nat.{ℕ}
use native.Mathlib.Nat.{div-one}
use Rattle.carry.specs.Carried.{digits}
use Rattle.carry.proofs.Endian.{bytes-digits}
use Rattle.carry.proofs.U16Number2.to_bytes.Goals as goal

pub returns : goal.returns
returns c = c.to_le_bytes.ensures ∙ bytes-digits 0 2 c.args.self ∙ ap (λ (y : ℕ). digits 2 y) (div-one c.args.self)
