-- `coarsest::coarsest` meets its contract: the tests follow the call's rules. Assumes nothing.
use Prim.Native.Nat.{ℕ}
use mathlib.Core.Path.{◌≡◌, ap, ◌∙◌, subst}
use mathlib.Core.Bool.{Bool, true, false, not, ◌||◌}
use mathlib.Core.List.{List}
use lib.Dec.{eqb}
use lib.ListN.{length}
use Rattle.encoding.specs.declared.Header.{Header}
use Rattle.std.proofs.Common.{rules, Ok, Err}
use Rattle.lts.proofs.Rule.{passed_on}
use Rattle.inputs.specs.Inputs.{read_inputs}
use Rattle.inputs.proofs.Laws.{input-broken, input-kept, kept-ready}
use Rattle.coarsest.proofs.Laws.{fit-lengths, unready, misfit, fitting, refusing, refining}
use Rattle.coarsest.proofs.Promise.{promised}
use Rattle.coarsest.proofs.coarsest.Goals as goal

pub matrix_words-requires : goal.matrix_words-requires
matrix_words-requires c =
    let e : read_inputs c.args.s.now c.args.start.now ≡ Ok c.in_ok-h.h = search rules in
    let k = input-kept c.args.s.now c.args.start.now e in
    (kept-ready _ _ k.1 k.0).readable.recorded.sized.bounds.states

-- the test of the lengths, with the words of a matrix by their definition
tested : (grid representatives : List ℕ) (n : ℕ) (b : Bool) {w words : ℕ} → w ≡ words → not (eqb (length grid) w) || not (eqb (length representatives) n) ≡ b
    → not (eqb (length grid) words) || not (eqb (length representatives) n) ≡ b
tested grid representatives n b e = subst (λ (w : ℕ). not (eqb (length grid) w) || not (eqb (length representatives) n) ≡ b) e

pub returns-then-grid-matrix_words : goal.returns-then-grid-matrix_words
returns-then-grid-matrix_words c =
    let e : read_inputs c.args.s.now c.args.start.now ≡ Ok c.in_ok-h.h = search rules in
    let k = input-kept c.args.s.now c.args.start.now e in
    let size = ap (λ (h : Header). h.states) k.1 in
    let taken = tested c.args.grid.now c.args.representatives.now _ true c.matrix_words.ensures.0 c.if-grid-matrix_words.true in
    let f = refusing c.args.s.now c.args.start.now c.args.schedule.now c.args.grid.now c.args.representatives.now (misfit c.args.s.now c.args.start.now c.args.grid.now c.args.representatives.now _ size k.0 taken) in
    record { representatives_value = f; coarsest_promise = promised c.args.s.now c.args.start.now c.args.schedule.now c.args.grid.now c.args.representatives.now _ _ _ f }

pub refine_encoding-requires : goal.refine_encoding-requires
refine_encoding-requires c =
    let e : read_inputs c.args.s.now c.args.start.now ≡ Ok c.in_ok-h.h = search rules in
    let k = input-kept c.args.s.now c.args.start.now e in
    let l = fit-lengths _ _ _ _ c.if-grid-matrix_words.false in
    record { ready = kept-ready _ _ k.1 k.0; grid_len = (l.0 ∙ c.matrix_words.ensures.0, l.1) }

pub returns-in_err-h : goal.returns-in_err-h
returns-in_err-h c =
    let r : read_inputs c.args.s.now c.args.start.now ≡ Err c.in_err-h.field-0.0 = search rules in
    let e = input-broken _ _ r in
    let f = refusing c.args.s.now c.args.start.now c.args.schedule.now c.args.grid.now c.args.representatives.now (unready c.args.s.now c.args.start.now c.args.schedule.now c.args.grid.now c.args.representatives.now e) in
    rw (passed_on _ c.from_residual.ensures.1)
    (record { representatives_value = f; coarsest_promise = promised c.args.s.now c.args.start.now c.args.schedule.now c.args.grid.now c.args.representatives.now _ _ _ f })

pub returns : goal.returns
returns c =
    let e : read_inputs c.args.s.now c.args.start.now ≡ Ok c.in_ok-h.h = search rules in
    let k = input-kept c.args.s.now c.args.start.now e in
    let size = ap (λ (h : Header). h.states) k.1 in
    let left = tested c.args.grid.now c.args.representatives.now _ false c.matrix_words.ensures.0 c.if-grid-matrix_words.false in
    let f = refining c.args.s.now c.args.start.now c.args.schedule.now c.args.grid.now c.args.representatives.now _ size (fitting c.args.s.now c.args.start.now c.args.grid.now c.args.representatives.now _ size k.0 left) ∙ c.refine_encoding.ensures in
    record { representatives_value = f; coarsest_promise = promised c.args.s.now c.args.start.now c.args.schedule.now c.args.grid.now c.args.representatives.now _ _ _ f }
