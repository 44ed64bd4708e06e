-- `partition::write_blocks` meets its contract: state by state, the blocks that are not written yet. Assumes nothing.
use mathlib.Core.Path.{◌≡◌, sym, ap, ◌∙◌}
use mathlib.Core.Bool.{Bool, true, false, ◌&&◌, and-false}
use mathlib.Core.List.{List}
use mathlib.Core.Logic.{⊎_elim}
use Prim.Native.Nat.{ℕ, ◌<◌, ◌≤◌}
use native.Mathlib.Nat.{not-suc-le-zero}
use native.Mathlib.Omega.{arith}
use Rattle.lts.specs.System.{Rel}
use Rattle.lts.specs.Refinement.{block}
use Rattle.rows.specs.Rows.{in_row}
use Rattle.sets.specs.Sets.{set_at, sets_of}
use Rattle.lts.proofs.Below.{either, lt-or-ge, and-fst}
use Rattle.rows.proofs.Rows.{in_row-zeros}
use Rattle.sets.proofs.Lists.{sets-cong}
use Rattle.partition.specs.Pending.{Ordered}
use Rattle.partition.proofs.write_blocks.Goals as goal

-- a state from n on has no block
outside : (n : ℕ) (K : Rel) → Ordered n K → (g h : ℕ) → g < 256 → h < 256 → n ≤ g → block K g h ≡ false
unfolding block
outside n K ok g h hg hh l =
    ⊎_elim (λ (e : K g h && K h g ≡ true). let low = (ok.inside g h hg hh (and-fst (K g h) (K h g) e)).0 in absurd (omega (arith, l, low))) (λ e. e) (either (K g h && K h g))

blocks_end : (n : ℕ) (K : Rel) (written : List ℕ) {blocks : List ℕ} → Ordered n K → ((g : ℕ) → g < n → in_row written g ≡ true)
    → blocks ≡ sets_of 256 (λ g h. in_row written g && block K g h) → blocks ≡ sets_of 256 (block K)
blocks_end n K written ok all now =
    now ∙ sets-cong 256 _ _ (λ g h hg hh.
    ⊎_elim (λ (l : g < n). ap (λ (b : Bool). b && block K g h) (all g l))
    (λ (l : n ≤ g). let none : block K g h ≡ false = outside n K ok g h hg hh l in ap (λ (b : Bool). in_row written g && b) none ∙ and-false (in_row written g) ∙ sym none) (lt-or-ge g n))

pub loop-p-init : goal.loop-p-init
loop-p-init c =
    let K = set_at c.args.related.now in
    (c.requires.3 ∙ sets-cong 256 _ _ (λ g h hg hh. sym (ap (λ (b : Bool). b && block K g h) (in_row-zeros 4 g))), λ g h. absurd (not-suc-le-zero h))

pub returns : goal.returns
returns c =
    let inv = c.loop-p.invariant in
    blocks_end c.args.n (set_at c.args.related.now) _ c.requires.2 (λ g h. inv.1 g (omega (arith, h, c.loop-p-test.false))) inv.0
