-- Counts of the elements at the front of a list.
use Prim.Native.Nat.{ℕ, ◌≤◌}
use mathlib.Core.Path.{sym}
use mathlib.Core.List.{List, ◌++◌}
use native.Mathlib.Omega.{arith}
use lib.ListN.{length, length-append}
use lib.Seq.{length-take-le}
use Rattle.io.specs.Counts.{IsPrefixLen}

pub counts : (n : ℕ) (xs : List ℕ) → n ≤ length xs → IsPrefixLen n xs
counts n xs h = (h, sym (length-take-le n xs h))

pub counts-front : (n : ℕ) (xs ys : List ℕ) → n ≤ length xs → IsPrefixLen n (xs ++ ys)
counts-front n xs ys h = counts n (xs ++ ys) (omega (arith, length-append xs ys))
