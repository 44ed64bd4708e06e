-- The sizes of a header in range.
use Prim.Native.Nat.{◌*◌, ◌≤◌}
use native.Mathlib.Omega.{arith}
use mathlib.Core.Path.{◌≡◌}
use mathlib.Core.Bool.{Bool, true, false, cond}
use mir.Val.{bool_byte}
use Rattle.encoding.specs.declared.Header.{Header}
use Rattle.encoding.specs.Records.{labels_length}
use Rattle.encoding.specs.Checked.{Bounds}

pub labels-none : (h : Header) → h.named ≡ false → labels_length h ≡ 0
unfolding labels_length
labels-none h e = rw e

pub labels-all : (h : Header) → h.named ≡ true → labels_length h ≡ 16 * h.actions
unfolding labels_length
labels-all h e = rw e

-- the label records take at most 1,024 bytes
pub labels-room : {h : Header} → Bounds h → labels_length h ≤ 1024
unfolding labels_length
labels-room {h} b = go h.named
  where
    go : (x : Bool) → cond x (16 * h.actions) 0 ≤ 1024
    go true = let k = b.actions in omega (arith, k)
    go false = omega arith

-- without a branch
pub labels-by-kind : (h : Header) → 16 * h.actions * bool_byte h.named ≡ labels_length h
unfolding labels_length
labels-by-kind h = go h.named
  where
    go : (x : Bool) → 16 * h.actions * bool_byte x ≡ cond x (16 * h.actions) 0
    go true = omega arith
    go false = omega arith
