-- `partition::write_block` meets its contract. Assumes nothing.
use mathlib.Core.Path.{◌≡◌, refl, sym, ap, ap₂, ◌∙◌}
use mathlib.Core.Bool.{Bool, true, false, cond, ◌&&◌, ◌||◌, or-true, or-false}
use mathlib.Core.List.{List, ◌++◌}
use Prim.Native.Nat.{ℕ, ◌<◌}
use native.Mathlib.Omega.{arith}
use lib.ListN.{length, drop}
use Rattle.lts.specs.System.{Rel}
use Rattle.lts.specs.Refinement.{block}
use Rattle.rows.specs.Rows.{in_row, row_of}
use Rattle.sets.specs.Sets.{set_at, sets_of}
use Rattle.lts.proofs.Below.{bool_iff, and-fst, and-snd}
use Rattle.rows.proofs.Rows.{in_row-written, length-written}
use Rattle.sets.proofs.Lists.{set-in, sets-in, sets-cong, sets-long}
use Rattle.partition.specs.Pending.{Ordered, Grown}
use Rattle.partition.proofs.write_block.Goals as goal

-- the block of p is written
module _ (n p : ℕ) (K : Rel) (ok : Ordered n K) (hn : p < n) (hp : p < 256) (written members written' : List ℕ) (long : length written ≡ 4)
    (members-are : members ≡ row_of 4 (block K p)) (union : written' ≡ row_of 4 (λ q. in_row written q || in_row members q) ++ drop 4 written) where
  in_members : (g : ℕ) → g < 256 → in_row members g ≡ block K p g
  in_members g h = set-in (block K p) members-are g h

  in-written : (g : ℕ) → g < 256 → in_row written' g ≡ in_row written g || in_row members g
  in-written g h = ap (λ (l : List ℕ). in_row l g) union ∙ in_row-written 4 (λ q. in_row written q || in_row members q) (drop 4 written) g h

  own : block K p p ≡ true
  unfolding block
  own = ap₂ ◌&&◌ (ok.loop p hn) (ok.loop p hn)

  -- the members have the same block
  same : (g h : ℕ) → g < 256 → h < 256 → block K p g ≡ true → block K p h ≡ block K g h
  unfolding block
  same g h hg hh e =
      let to : K p g ≡ true = and-fst (K p g) (K g p) e in
      let back : K g p ≡ true = and-snd (K p g) (K g p) e in
      bool_iff (λ t. ap₂ ◌&&◌ (ok.trans g p h hg hp hh back (and-fst (K p h) (K h p) t)) (ok.trans h p g hh hp hg (and-snd (K p h) (K h p) t) to))
      (λ t. ap₂ ◌&&◌ (ok.trans p g h hp hg hh to (and-fst (K g h) (K h g) t)) (ok.trans h g p hh hg hp (and-snd (K g h) (K h g) t) back))

  grown : Grown p written written'
  grown = record {
    long = ap length union ∙ length-written 4 (λ q. in_row written q || in_row members q) written (omega (arith, long)) ∙ long;
    added = in-written p hp ∙ ap (λ (b : Bool). in_row written p || b) (in_members p hp ∙ own) ∙ or-true (in_row written p);
    kept = λ g h e. in-written g h ∙ ap (λ (b : Bool). b || in_row members g) e;
  }

  blocks-next : (blocks blocks' : List ℕ) → blocks ≡ sets_of 256 (λ g h. in_row written g && block K g h)
      → blocks' ≡ sets_of 256 (λ g h. cond (in_row members g) (in_row members h) (set_at blocks g h)) → blocks' ≡ sets_of 256 (λ g h. in_row written' g && block K g h)
  blocks-next blocks blocks' before e = e ∙ sets-cong 256 _ _ (λ g h l u. go g h l u (in_row members g) refl)
    where
      go : (g h : ℕ) → g < 256 → h < 256 → (b : Bool) → in_row members g ≡ b → cond b (in_row members h) (set_at blocks g h) ≡ in_row written' g && block K g h
      go g h l u true m =
          in_members h u ∙ same g h l u (sym (in_members g l) ∙ m)
          ∙ sym (ap (λ (b : Bool). b && block K g h) (in-written g l ∙ ap (λ (b : Bool). in_row written g || b) m ∙ or-true (in_row written g)))
      go g h l u false m =
          sets-in 256 _ before g h l u
          ∙ sym (ap (λ (b : Bool). b && block K g h) (in-written g l ∙ ap (λ (b : Bool). in_row written g || b) m ∙ or-false (in_row written g)))

pub set_rows-requires : goal.set_rows-requires
set_rows-requires c = sets-long 256 _ c.requires.blocks_value

pub returns : goal.returns
returns c =
    let pre = c.requires.related_len in
    let K = set_at c.args.related.now in record { blocks_after = blocks-next pre.2.0 c.args.p K pre.2.1 pre.2.2 pre.1 c.args.written.now _ _ pre.3 c.block_of-members.ensures c.row_union.ensures c.args.blocks.now _ c.requires.blocks_value c.set_rows.ensures; grown = grown pre.2.0 c.args.p K pre.2.1 pre.2.2 pre.1 c.args.written.now _ _ pre.3 c.block_of-members.ensures c.row_union.ensures }
