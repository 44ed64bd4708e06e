-- `sets::member_at` meets its contract: word by word. Assumes nothing.
use mathlib.Core.Path.{◌≡◌, sym, ap, ◌∙◌}
use mathlib.Core.Bool.{true}
use mathlib.Core.List.{List}
use Prim.Native.Nat.{ℕ, ◌+◌, ◌-◌, ◌*◌, ◌^◌, ◌<◌, ◌≤◌}
use native.Mathlib.Omega.{arith}
use lib.Count.{ones}
use lib.ListN.{length, get_or, take}
use lib.Seq.{get_or-take, length-take-le}
use Rattle.lts.specs.Bounded.{passing}
use Rattle.rows.specs.Rows.{bit, in_row}
use Rattle.lts.proofs.Lists.{passing-none, passing-same, passing-add, passing-place, length-passing}
use Rattle.rows.proofs.Counts.{ones-count}
use Rattle.rows.proofs.Rows.{in_row-at}
use Rattle.sets.proofs.member_at.Goals as goal

-- the states below place r of word c: those of the words before it, and the ones below r
states-before : (a : List ℕ) (c r : ℕ) → r ≤ 64
    → length (passing (c * 64 + r) (in_row a)) ≡ length (passing (c * 64) (in_row a)) + length (passing r (bit (get_or a c 0)))
states-before a c r h =
    passing-add (c * 64) r (in_row a)
    ∙ ap (λ (l : List ℕ). length (passing (c * 64) (in_row a)) + length l) (passing-same r _ _ (λ i l. in_row-at a c i (omega (arith, l, h))))

-- the ones of a word are as many as are listed
ones-listed : (x : ℕ) → x < 2 ^ 64 → ones x ≡ length (passing 64 (bit x))
ones-listed x small = ones-count 64 small ∙ sym (length-passing 64 (bit x))

module _ (a : List ℕ) (j left c : ℕ) (reached : left + length (passing (c * 64) (in_row a)) ≡ j) where
  -- state j is not in word c
  passed_over : get_or a c 0 < 2 ^ 64 → ones (get_or a c 0) ≤ left → left - ones (get_or a c 0) + length (passing ((c + 1) * 64) (in_row a)) ≡ j
  passed_over small few =
      let next : (c + 1) * 64 ≡ c * 64 + 64 = omega arith in
      omega (arith, reached, few, ap (λ (n : ℕ). length (passing n (in_row a))) next, states-before a c 64 (omega arith), ones-listed (get_or a c 0) small)

  -- it is the one that has `left` ones below it
  found_here : (r : ℕ) → c < 4 → (r < 64) × (bit (get_or a c 0) r ≡ true) × (length (passing r (bit (get_or a c 0))) ≡ left)
      → 64 * c + r ≡ get_or (passing 256 (in_row a)) j 0
  found_here r h one =
      let place : 64 * c + r ≡ c * 64 + r = omega arith in
      let count : length (passing (c * 64 + r) (in_row a)) ≡ j = omega (arith, states-before a c r (omega (arith, one.0)), one.2, reached) in
      place ∙ sym (passing-place (in_row a) 256 (c * 64 + r) (omega (arith, h, one.0)) (in_row-at a c r one.0 ∙ one.1))
      ∙ ap (λ (i : ℕ). get_or (passing 256 (in_row a)) i 0) count

-- word c, of the first four
front : (a : List ℕ) (c : ℕ) → 4 ≤ length a → c < length (take 4 a) → (c < 4) × (get_or (take 4 a) c 0 ≡ get_or a c 0)
front a c room h = let low : c < 4 = omega (arith, h, length-take-le 4 a room) in (low, get_or-take 4 a c 0 low)

pub loop-c-init : goal.loop-c-init
loop-c-init c = omega (arith, passing-none (in_row c.args.a.now))

pub one_at-requires : goal.one_at-requires
one_at-requires c =
    let here = front _ _ c.requires.0 c.loop-c-test.true in
    rw here.1 (omega (arith, c.if-left-ones.true, ap ones here.1, ones-listed _ (c.type_inv.a c.loop-c.c).fits))

pub returns-then-left-ones : goal.returns-then-left-ones
returns-then-left-ones c =
    let here = front _ _ c.requires.0 c.loop-c-test.true in
    found_here _ _ c.loop-c.left c.loop-c.c c.loop-c.invariant c.one_at.result here.0 (rw here.1 at c.one_at.ensures)

pub loop-c-preserved : goal.loop-c-preserved
loop-c-preserved c =
    let here = front _ _ c.requires.0 c.loop-c-test.true in
    rw here.1 (passed_over _ _ c.loop-c.left c.loop-c.c c.loop-c.invariant (c.type_inv.a _).fits (omega (arith, c.if-left-ones.false, ap ones here.1)))
