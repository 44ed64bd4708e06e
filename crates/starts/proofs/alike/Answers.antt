-- `starts::alike` meets its contract: what is gathered state by state.
use mathlib.Core.Path.{◌≡◌, sym, ap, ◌∙◌}
use Prim.Native.Nat.{◌<◌}
use lib.Dec.{eqb}
use lib.ListN.{get_or}
use lib.Seq.{get_or-take}
use borrow.Author.Tests.{eq-eqb, ne_eqb}
use Rattle.lts.specs.System.{Set}
use Rattle.rows.proofs.Rows.{picked, picked_none, picked-in, picked-out, picked_all}
use Rattle.starts.specs.Start.{same_set}
use Rattle.starts.proofs.Words.{same-words}
use borrow.Author.Rules.{rules}
use Rattle.starts.proofs.alike.Goals.{then-word-own, else-word-own}
use Rattle.starts.proofs.alike.Goals as goal

pub loop-q-init : goal.loop-q-init
loop-q-init c = picked_none _

pub returns : goal.returns
returns c =
    let end : c.loop-q.q ≡ c.args.n = search rules in
    c.loop-q.invariant ∙ ap (picked _) end ∙ picked_all _ c.args.n

pub loop-q-preserved : goal.loop-q-preserved
loop-q-preserved c =
    let of = c.args.words.now in
    let q = c.loop-q.q in
    let S : Set = λ i. same_set (get_or of c.args.p 0) (get_or of i 0) in
    let low : q < c.args.n = search rules in
    let word = get_or-take c.args.n of q 0 low in
    let bits : S q ≡ eqb (get_or of c.args.p 0) (get_or of q 0) = sym (same-words (search rules) (search rules)) in
    elim c.if-word-own.branch [
      | then-word-own w ↦ w.set-is ∙ w.insert.ensures ∙ picked-in S q c.loop-q.invariant (bits ∙ eq-eqb _ _ (sym w.if-word-own.true ∙ word))
      | else-word-own w ↦ w.set-is ∙ picked-out S q c.loop-q.invariant (bits ∙ ne_eqb _ _ (λ e. w.if-word-own.false (word ∙ sym e)))
    ]
