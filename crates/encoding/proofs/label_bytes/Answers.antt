-- `encoding::label_bytes` meets its contract.
use Prim.Native.Nat.{ℕ, ◌-◌}
use native.Mathlib.Omega.{arith}
use mathlib.Core.Path.{◌≡◌, ap}
use lib.ListN.{take, drop}
use Rattle.encoding.specs.Records.{labels_length, label_records}
use Rattle.encoding.proofs.label_bytes.Goals as goal

pub returns : goal.returns
unfolding label_records
returns c =
    let size : c.state_at-end.result - 6 ≡ labels_length c.args.h = omega (arith, c.state_at-end.ensures) in
    ap (λ (k : ℕ). take k (drop 6 c.args.s.now)) size
