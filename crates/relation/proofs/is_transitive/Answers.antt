-- `relation::is_transitive` meets its contract: state by state, from the last down. Assumes nothing.
use Rattle.std.proofs.Common.{◌≡◌, sym, ap, ◌∙◌, ◌-◌, ◌<◌, arith, ⊎_elim}
use native.Mathlib.Nat.{eq-or-lt_of_le}
use Rattle.relation.specs.Matrix.{relation_of}
use Rattle.relation.specs.Check.{transitive_at, transitive_below}
use Rattle.lts.proofs.Below.{all_yes, all-not}
use Rattle.relation.proofs.is_transitive.Goals as goal

pub returns-then-not-transitive_at : goal.returns-then-not-transitive_at
unfolding transitive_below
returns-then-not-transitive_at c = all-not _ _ (c.loop-p.p - 1) (omega arith) (sym c.transitive_at.ensures ∙ c.if-not-transitive_at.true)

pub loop-p-preserved : goal.loop-p-preserved
loop-p-preserved c =
    let n = c.args.n in
    let p = c.loop-p.p in
    let passed = sym c.transitive_at.ensures ∙ c.if-not-transitive_at.false in
    λ t h l. ⊎_elim (λ (e : p - 1 ≡ t). ap (transitive_at n (relation_of n c.args.grid.now)) (sym e) ∙ passed)
    (λ (k : p - 1 < t). c.loop-p.invariant t (omega arith) l) (eq-or-lt_of_le h)

pub returns : goal.returns
unfolding transitive_below
returns c = all_yes _ _ (λ t h. c.loop-p.invariant t (omega arith) h)
