-- `adjacency::actions_entering` meets its contract: by the laws of `JoiningWords`, and word by word. Assumes nothing.
use Prim.Native.Nat.{◌^◌, ◌<◌}
use lib.ListN.{get_or}
use Rattle.adjacency.proofs.Lookups.{entering-none, entering-more}
use Rattle.adjacency.proofs.Words.{words-begin, words_more, words-end}
use borrow.Author.Rules.{rules}
use Rattle.adjacency.proofs.actions_entering.Invariants.{word_at}
use Rattle.adjacency.proofs.actions_entering.Goals as goal

pub loop-c-init : goal.loop-c-init
loop-c-init c = entering-none c.args.rows.now c.args.set

pub loop-i-init : goal.loop-i-init
loop-i-init c =
    let out : c.loop-c.out < 2 ^ 64 = search rules in
    rw (c.into_iter-i-iterator.ensures.into_iter_gives, c.ones-i-items.ensures) (words-begin (get_or c.args.set c.loop-c.c 0) c.loop-c.out (word_at c.args.rows.now c.loop-c.c) out c.loop-c-test.element_fits.fits)

pub loop-i-preserved : goal.loop-i-preserved
loop-i-preserved c =
    let (some, place, rest) = c.in-Some.ensures.steps.1 in
    rw (place, rest) (words_more (get_or c.args.set c.loop-c.c 0) c.loop-c.out (word_at c.args.rows.now c.loop-c.c) c.loop-i.invariant some (c.type_inv.rows _).fits)

pub loop-c-preserved : goal.loop-c-preserved
loop-c-preserved c =
    entering-more c.args.rows.now c.args.set c.loop-c.c c.loop-c.invariant
    (words-end (get_or c.args.set c.loop-c.c 0) c.loop-c.out (word_at c.args.rows.now c.loop-c.c) c.loop-i.invariant c.in-None.ensures.steps.1.0)
