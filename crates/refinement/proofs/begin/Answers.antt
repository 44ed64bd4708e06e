-- `refinement::begin` meets its contract: the start as sets, cut to the enabled states, is K at the beginning. Assumes nothing.
use mathlib.Core.Path.{◌≡◌, ap, ◌∙◌, subst⁻¹}
use Prim.Native.Nat.{ℕ}
use native.Mathlib.Omega.{arith}
use Rattle.lts.specs.Bounded.{restrict}
use Rattle.lts.specs.Refinement.{initial}
use Rattle.relation.specs.Matrix.{relation_of}
use Rattle.transitions.specs.Table.{states_of, table_lts}
use Rattle.sets.specs.Sets.{set_at, sets_of}
use Rattle.sets.proofs.Lists.{sets-long}
use Rattle.partition.specs.Pending.{Ordered}
use Rattle.refinement.proofs.Beginning.{initial-related, initial-viewed, ordered-first}
use Rattle.refinement.proofs.Loop.{loop-begin}
use Rattle.refinement.proofs.begin.Goals.{After-keep_enabled}
use Rattle.refinement.proofs.begin.Goals as goal

pub keep_enabled-requires : goal.keep_enabled-requires
keep_enabled-requires c = (sets-long 256 _ c.from_matrix.ensures, c.requires.start.2)

pub set_rows-requires : goal.set_rows-requires
set_rows-requires c = sets-long 256 _ c.requires.related_value.1

-- K at the beginning
related : (c : After-keep_enabled)
    → c.keep_enabled.new.related ≡ sets_of 256 (initial (table_lts c.args.table.now) (relation_of (states_of c.args.table.now) c.args.start.now)).related
related c =
    let n = c.states-n.ensures.0 in
    let first = c.from_matrix.ensures ∙ ap (λ (n : ℕ). sets_of 256 (restrict n (relation_of n c.args.start.now))) n in
    initial-related c.requires.start.2.1 (relation_of (states_of c.args.table.now) c.args.start.now) first c.keep_enabled.ensures

pub write_blocks-requires : goal.write_blocks-requires
write_blocks-requires c =
    let n = c.states-n.ensures.0 in
    let (start, all, (places, ix)) = c.requires.start in
    let related = related (goal.at.write_blocks-requires c).After-keep_enabled in (
      omega (arith, n, ix.formed.states),
      sets-long 256 _ related,
      subst⁻¹ (λ (n : ℕ). Ordered n (set_at c.keep_enabled.new.related)) n (ordered-first ix.formed start related),
      c.requires.related_value.2,
    )

pub returns : goal.returns
returns c = λ schedule.
    let (start, all, (places, ix)) = c.requires.start in
    let from = relation_of (states_of c.args.table.now) c.args.start.now in
    let viewed = initial-viewed ix from all c.requires.related_value.1 c.set_rows.ensures in
    loop-begin ix.formed start schedule _ _ _ (related (goal.at.returns c).After-keep_enabled) viewed c.write_blocks.ensures
