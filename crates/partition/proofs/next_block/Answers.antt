-- `partition::next_block` meets its contract. Assumes nothing.
use mathlib.Core.Path.{◌≡◌, sym, ap, ◌∙◌, subst⁻¹}
use mathlib.Core.Bool.{true}
use mathlib.Core.List.{List}
use Prim.Native.Nat.{ℕ, ◌<◌, ◌%◌}
use native.Mathlib.Nat.{mod-lt, zero-mod}
use native.Mathlib.Omega.{arith}
use lib.ListN.{length, get_or, get_or-eq_default}
use Rattle.lts.specs.Bounded.{any_below, count_below, passing, lowest}
use Rattle.lts.specs.System.{Set}
use Rattle.rows.specs.Rows.{in_row}
use Rattle.lts.proofs.Below.{true-T, any_some, lowest-lt, lowest-at, lowest-before}
use Rattle.lts.proofs.Count.{passing-some, passing-shorter}
use Rattle.lts.proofs.Lists.{length-passing, passing-place}
use borrow.Author.Rules.{rules}
use Rattle.partition.proofs.next_block.Goals as goal

-- the number of listed states is not 0
count-some : (S : Set) → any_below 256 S ≡ true → 0 < length (passing 256 S)
count-some S e = passing-some 256 S (true-T (any_below 256 S) e)

-- number 0 is the lowest
first-lowest : (S : Set) → any_below 256 S ≡ true → lowest 256 S ≡ get_or (passing 256 S) 0 0
unfolding passing
first-lowest S e =
    let s = any_some 256 S e in
    let l = lowest-lt 256 S s.0 s.1 s.2 in
    sym (passing-place S 256 (lowest 256 S) l (lowest-at 256 S l))
    ∙ ap (λ (p : List ℕ). get_or (passing 256 S) (length p) 0) (passing-shorter 0 (lowest 256 S) S (omega arith) (λ i _ h. lowest-before 256 S i h))

-- a remainder is the number of a listed state
number-below : (S : Set) (x : ℕ) {k : ℕ} → k ≡ count_below 256 S → any_below 256 S ≡ true → x % k < length (passing 256 S)
number-below S x e some = subst⁻¹ (λ (k : ℕ). x % k < length (passing 256 S)) (e ∙ sym (length-passing 256 S)) (mod-lt x (count-some S some))

pub nonzero_rem-e : goal.nonzero_rem-e
nonzero_rem-e c =
    let S = in_row c.args.pending.now in
    omega (arith, c.row_count.ensures, length-passing 256 S, count-some S c.requires)

pub member_at-requires : goal.member_at-requires
member_at-requires c = (search rules, number-below (in_row c.args.pending.now) _ c.row_count.ensures c.requires)

pub returns-then-step-schedule : goal.returns-then-step-schedule
returns-then-step-schedule c =
    let S = in_row c.args.pending.now in
    let same : c.row_count.result ≡ length (passing 256 S) = c.row_count.ensures ∙ sym (length-passing 256 S) in
    c.member_at.ensures ∙ ap (λ (k : ℕ). get_or (passing 256 S) (c.from-e.result % k) 0) same
    ∙ ap (λ (x : ℕ). get_or (passing 256 S) (x % length (passing 256 S)) 0) c.from-e.ensures

pub returns : goal.returns
returns c =
    let S = in_row c.args.pending.now in
    c.lowest_state.ensures ∙ first-lowest S c.requires
    ∙ sym (ap (λ (x : ℕ). get_or (passing 256 S) (x % length (passing 256 S)) 0) (get_or-eq_default c.args.schedule.now 0 c.if-step-schedule.false)
    ∙ ap (λ (x : ℕ). get_or (passing 256 S) x 0) (zero-mod (length (passing 256 S))))
