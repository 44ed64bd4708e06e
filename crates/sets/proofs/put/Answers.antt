-- `sets::put` meets its contract. Assumes nothing.
use mathlib.Core.Path.{◌≡◌, subst⁻¹}
use mathlib.Core.Bool.{cond}
use Prim.Native.Nat.{ℕ, ◌+◌, ◌/◌, ◌%◌}
use lib.Dec.{eqb}
use mir.Syntax.{w64}
use native.Mathlib.Omega.{arith}
use lib.ListN.{length, get_or, set, length-set}
use borrow.Author.Rules.{elem_Fits}
use Rattle.rows.specs.Rows.{in_row, row_of}
use Rattle.sets.proofs.Lists.{put_four}
use Rattle.sets.proofs.put.Goals as goal

pub bounds-sets-i-2 : goal.bounds-sets-i-2
bounds-sets-i-2 c = simp length-set (omega arith)

pub bounds-sets-i-3 : goal.bounds-sets-i-3
bounds-sets-i-3 c = simp length-set (omega arith)

pub bounds-sets-i-4 : goal.bounds-sets-i-4
bounds-sets-i-4 c = simp length-set (omega arith)

pub returns : goal.returns
returns c =
    let g = c.args.sets.now in
    let a = c.args.a in
    subst⁻¹ (λ (i : ℕ). set (set (set (set g i (get_or a 0 0)) (i + 1) (get_or a 1 0)) (i + 2) (get_or a 2 0)) (i + 3) (get_or a 3 0)
    ≡ row_of (length g) (λ x. cond (eqb (x / 256) c.args.p) (in_row a (x % 256)) (in_row g x))) c.first_word-i.ensures
    (put_four g a c.args.p c.requires (λ j. (c.slice_known-1.given j).fits) (λ j. (elem_Fits w64 w64 a _ j c.well_formed.1.1.0.1.1 tt).fits))
