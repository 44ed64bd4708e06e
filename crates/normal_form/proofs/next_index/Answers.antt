-- `normal_form::next_index` meets its contract.
use Prim.Native.Nat.{◌+◌, ◌≤◌, ◌<◌}
use mathlib.Core.Path.{◌≡◌, sym, ◌∙◌}
use borrow.Author.Tests.{eq-eqb, ne_eqb}
use Rattle.transitions.specs.Table.{count_of, source_at}
use Rattle.normal_form.proofs.Written.{next_more, next-none}
use borrow.Author.Rules.{rules}
use Rattle.normal_form.proofs.next_index.Goals as goal

pub returns-then-source : goal.returns-then-source
returns-then-source c = let t = c.args.table.now in
    let i = c.args.i in
    let same : source_at t (i + 1) ≡ source_at t i = sym c.source.ensures.0 ∙ c.if-source.true ∙ c.source-then-i-count.ensures.0 in
    let more : i + 1 < count_of t = search rules in
    rw (next_more t c.requires.0 i more, eq-eqb _ _ same)

pub returns-then-i-count : goal.returns-then-i-count
returns-then-i-count c = let t = c.args.table.now in
    let i = c.args.i in
    let other : source_at t (i + 1) ≡ source_at t i → ⊥ = λ e. c.if-source.false (c.source.ensures.0 ∙ e ∙ sym c.source-then-i-count.ensures.0) in
    let more : i + 1 < count_of t = search rules in
    rw (next_more t c.requires.0 i more, ne_eqb _ _ other)

pub returns : goal.returns
returns c = let t = c.args.table.now in
    let last : count_of t ≤ c.args.i + 1 = search rules in
    sym (next-none t c.requires.0 c.args.i last)
