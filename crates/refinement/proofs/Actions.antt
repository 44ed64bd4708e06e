-- The actions of one refinement step, on lists of sets.
use Prim.Native.Nat.{ℕ, zero, suc, ◌+◌, ◌-◌, ◌^◌, ◌≤◌, ◌<◌}
use native.Mathlib.Nat.{le_refl, eq-or-lt_of_le}
use native.Mathlib.Numerals.{add-one}
use native.Mathlib.Omega.{arith}
use mathlib.Core.Path.{◌≡◌, refl, sym, ◌∙◌, ap, ap₂, subst, fun_ext}
use mathlib.Core.Bool.{Bool, true, false, cond, not, ◌&&◌, ◌||◌, and-true, and-false}
use mathlib.Core.Logic.{inl, inr, ⊎_elim}
use mathlib.Core.List.{List}
use lib.Bits.{bit_and}
use lib.Count.{count_trailing_zeros}
use lib.Dec.{T, eqb}
use lib.ListN.{length, get_or}
use borrow.Author.Tests.{eq-eqb, eqb-true}
use Rattle.lts.specs.Bounded.{any_below}
use Rattle.lts.specs.System.{Set, Rel, Lts, into}
use Rattle.lts.specs.Refinement.{block, remove, refine, each_action}
use Rattle.lts.proofs.Refine.{Blocks}
use Rattle.lts.proofs.Below.{any-no, any-shorter, and-fst, clash, neither, lt-or-ge}
use Rattle.lts.proofs.System.{into-to}
use Rattle.rows.specs.Rows.{in_row, row_of}
use Rattle.sets.specs.Sets.{set_at, sets_of}
use Rattle.sets.specs.Parts.{Parted, Owned}
use Rattle.sets.proofs.Lists.{set-in, sets-in, sets-cong, sets-ext}
use Rattle.sets.proofs.Walks.{Rest, Stepped, rest-begin, rest-next, rest_end}
use Rattle.transitions.specs.Table.{actions_of, table_lts, Formed}
use Rattle.transitions.proofs.Entries.{table-formed}
use Rattle.splitting.specs.Split.{split_related, split_blocks, prune_related, refined_related, Acted}
use Rattle.splitting.proofs.Laws.{refined-cong, split-blocks-cong, refined-is, refined-blocks-is, SameSet, SameRel}
use Rattle.splitting.proofs.Touched.{related-unsplit, blocks-unsplit, owned-split}
use Rattle.refinement.specs.Engine.{Refined, actions_to, acted, removed_by, hits_by, Idle, Fixed, Owning, Untouched, Done}

-- ---- an action that changes nothing

idle-pair : (k p rg hit : Bool) → k ≡ (k && not (p && not rg && false)) && not (hit && false)
idle-pair true true true true = refl
idle-pair true true true false = refl
idle-pair true true false true = refl
idle-pair true true false false = refl
idle-pair true false rg true = refl
idle-pair true false rg false = refl
idle-pair false p rg hit = refl

-- Rem is empty
module _ (Rem Hits : Set) (K P : Rel) (none : (q : ℕ) → q < 256 → Rem q ≡ false) where
  empty-related : (g h : ℕ) → g < 256 → h < 256 → K g h ≡ refined_related 256 Rem Hits K P g h
  unfolding refined_related prune_related split_related
  empty-related g h l m =
      idle-pair (K g h) (P g h) (Rem g) (any_below 256 (λ x. split_blocks Rem P g x && Hits x))
      ∙ sym (ap (λ (b : Bool). (K g h && not (P g h && not (Rem g) && b)) && not (any_below 256 (λ x. split_blocks Rem P g x && Hits x) && b)) (none h m))

  empty-blocks : (g h : ℕ) → g < 256 → h < 256 → P g h ≡ split_blocks Rem P g h
  unfolding split_blocks
  empty-blocks g h l m = sym (ap₂ (λ (a b : Bool). P g h && cond a b (not b)) (none g l) (none h m) ∙ and-true (P g h))

-- no hit, and no block is split
module _ (Rem Hits : Set) (K P : Rel) (one : (g h : ℕ) → g < 256 → h < 256 → P g h ≡ true → Rem h ≡ Rem g) (miss : (q : ℕ) → q < 256 → Hits q ≡ false) where
  unsplit-related : (g h : ℕ) → g < 256 → h < 256 → K g h ≡ refined_related 256 Rem Hits K P g h
  unfolding refined_related prune_related
  unsplit-related g h l m =
      related-unsplit Rem K P g h (one g h l m) ∙ sym (and-true (split_related Rem K P g h))
      ∙ ap (λ (b : Bool). split_related Rem K P g h && not (b && Rem h))
      (any-no 256 _ (λ x u. ap (λ (b : Bool). split_blocks Rem P g x && b) (miss x u) ∙ and-false (split_blocks Rem P g x)))

  unsplit-blocks : (g h : ℕ) → g < 256 → h < 256 → P g h ≡ split_blocks Rem P g h
  unsplit-blocks g h l m = blocks-unsplit Rem P g h (one g h l m)

-- P has no pair that Q has not
abbrev pub Finer : Rel → Rel → Type 0
Finer P Q = (g h : ℕ) → g < 256 → h < 256 → P g h ≡ true → Q g h ≡ true

-- one that the engine skips
pub idle-related : {Rem Hits : Set} {P Q : Rel} (K : Rel) → Idle Rem Hits Q → Finer P Q → SameRel 256 K (refined_related 256 Rem Hits K P)
idle-related {Rem} {Hits} {P} {Q} K (inl none) finer = empty-related Rem Hits K P none
idle-related {Rem} {Hits} {P} {Q} K (inr still) finer = unsplit-related Rem Hits K P (λ g h l m e. still.1 g h l m (finer g h l m e)) still.0

pub idle_blocks : {Rem Hits : Set} {P Q : Rel} → Idle Rem Hits Q → Finer P Q → SameRel 256 P (split_blocks Rem P)
idle_blocks {Rem} {Hits} {P} {Q} (inl none) finer = empty-blocks Rem Hits P P none
idle_blocks {Rem} {Hits} {P} {Q} (inr still) finer = unsplit-blocks Rem Hits P P (λ g h l m e. still.1 g h l m (finer g h l m e)) still.0

-- ---- one action more, on lists that hold what j actions left

pub acted-next : (Rem Hits : ℕ → Set) (j : ℕ) (r : Refined) {related blocks related' blocks' touched : List ℕ}
    → related ≡ sets_of 256 (actions_to Rem Hits j r).related → blocks ≡ sets_of 256 (actions_to Rem Hits j r).blocks
    → Acted (Rem (suc j)) (Hits (suc j)) related blocks related' blocks' touched
    → (related' ≡ sets_of 256 (actions_to Rem Hits (suc j) r).related) × (blocks' ≡ sets_of 256 (actions_to Rem Hits (suc j) r).blocks)
unfolding actions_to
acted-next Rem Hits j r e d act = (
  act.related-is ∙ sets-cong 256 _ _ (refined-cong 256 (λ _ _. refl) (λ _ _. refl) (sets-in 256 _ e) (sets-in 256 _ d)),
  act.blocks_is ∙ sets-cong 256 _ _ (split-blocks-cong 256 (λ _ _. refl) (sets-in 256 _ d)),
)

-- an action that is skipped
pub acted-skip : (Rem Hits : ℕ → Set) (j : ℕ) (r : Refined) {Q : Rel} {related blocks : List ℕ}
    → related ≡ sets_of 256 (actions_to Rem Hits j r).related → blocks ≡ sets_of 256 (actions_to Rem Hits j r).blocks
    → Idle (Rem (suc j)) (Hits (suc j)) Q → Finer (set_at blocks) Q
    → (related ≡ sets_of 256 (actions_to Rem Hits (suc j) r).related) × (blocks ≡ sets_of 256 (actions_to Rem Hits (suc j) r).blocks)
unfolding actions_to
acted-skip Rem Hits j r {related = related} {blocks} e d idle finer = (
  e ∙ sets-cong 256 _ _ (λ g h l m. sym (sets-in 256 _ e g h l m) ∙ idle-related (set_at related) idle finer g h l m
      ∙ refined-cong 256 (λ _ _. refl) (λ _ _. refl) (sets-in 256 _ e) (sets-in 256 _ d) g h l m),
  d ∙ sets-cong 256 _ _ (λ g h l m. sym (sets-in 256 _ d g h l m) ∙ idle_blocks idle finer g h l m ∙ split-blocks-cong 256 (λ _ _. refl) (sets-in 256 _ d) g h l m),
)

-- the actions from i up to j that are skipped
pub acted-skips : (Rem Hits : ℕ → Set) (i j : ℕ) (r : Refined) {Q : Rel} {related blocks : List ℕ} → i ≤ j
    → related ≡ sets_of 256 (actions_to Rem Hits i r).related → blocks ≡ sets_of 256 (actions_to Rem Hits i r).blocks
    → ((x : ℕ) → i ≤ x → x < j → Idle (Rem (suc x)) (Hits (suc x)) Q) → Finer (set_at blocks) Q
    → (related ≡ sets_of 256 (actions_to Rem Hits j r).related) × (blocks ≡ sets_of 256 (actions_to Rem Hits j r).blocks)
acted-skips Rem Hits i zero r {related = related} {blocks} l e d idle finer =
    let same : i ≡ 0 = omega (arith, l) in
    (e ∙ ap (λ (x : ℕ). sets_of 256 (actions_to Rem Hits x r).related) same, d ∙ ap (λ (x : ℕ). sets_of 256 (actions_to Rem Hits x r).blocks) same)
acted-skips Rem Hits i (suc j) r {Q} {related} {blocks} l e d idle finer =
    ⊎_elim
    (λ (same : i ≡ suc j). (e ∙ ap (λ (x : ℕ). sets_of 256 (actions_to Rem Hits x r).related) same, d ∙ ap (λ (x : ℕ). sets_of 256 (actions_to Rem Hits x r).blocks) same))
    (λ (m : i < suc j).
    let before = acted-skips Rem Hits i j r {Q = Q} {related = related} {blocks = blocks} (omega (arith, m)) e d (λ x u v. idle x u (omega (arith, v))) finer in
    acted-skip Rem Hits j r before.0 before.1 (idle j (omega (arith, m)) (le_refl (suc j))) finer)
    (eq-or-lt_of_le l)

-- what one action makes of lists whose sets agree
pub acted-cong : {Rem Rem' Hits Hits' : Set} {related blocks related' blocks' touched : List ℕ} → SameSet 256 Rem Rem' → SameSet 256 Hits Hits'
    → Acted Rem Hits related blocks related' blocks' touched → Acted Rem' Hits' related blocks related' blocks' touched
acted-cong {related = related} {blocks} r h act = record {
  related-is = act.related-is ∙ sets-cong 256 _ _ (refined-cong 256 {K = set_at related} {K' = set_at related} {P = set_at blocks} {P' = set_at blocks} r h (λ _ _ _ _. refl) (λ _ _ _ _. refl));
  blocks_is = act.blocks_is ∙ sets-cong 256 _ _ (split-blocks-cong 256 {P = set_at blocks} {P' = set_at blocks} r (λ _ _ _ _. refl));
  related_same = act.related_same;
  blocks-same = act.blocks-same;
}

-- ---- the actions by rows are those of the refinement rule

-- hits are sought among the numbers below 256 or below n, where blocks lie below n
fewer-hits : (n : ℕ) (Rem Hits : Set) (K P : Rel) → n ≤ 256 → ((g h : ℕ) → n ≤ h → P g h ≡ false) → (g h : ℕ) → refined_related 256 Rem Hits K P g h ≡ refined_related n Rem Hits K P g h
unfolding refined_related prune_related split_blocks
fewer-hits n Rem Hits K P small off g h =
    ap (λ (b : Bool). split_related Rem K P g h && not (b && Rem h))
    (any-shorter n 256 _ small (λ x l m. ap (λ (b : Bool). (b && cond (Rem g) (Rem x) (not (Rem x))) && Hits x) (off g x l)))

-- K has blocks after each action, and a hit is never in Rem
module _ (L : Lts) (small : L.states ≤ 256) (B Y N : Set) (K₀ : Rel)
    (steady : (j : ℕ) → Blocks (λ g. g < L.states) (λ g h. T (each_action j (refine L B Y N) K₀ g h)))
    (free : (a x : ℕ) → T (into L a B x) → T (remove L a Y N x) → ⊥) where
  abbrev done : ℕ → Rel
  done j = each_action j (refine L B Y N) K₀

  abbrev rows : ℕ → Refined
  rows j = actions_to (λ a. remove L a Y N) (λ a. into L a B) j (record { related = K₀; blocks = block K₀ })

  -- a block lies below n
  off : (j g h : ℕ) → L.states ≤ h → block (done j) g h ≡ false
  unfolding block
  off j g h l = go (done j g h) (λ t. (steady j).target {g = g} {h = h} t)
    where
      go : (b : Bool) → (T b → h < L.states) → b && done j h g ≡ false
      go false f = refl
      go true f = absurd (omega (arith, f tt, l))

  record Same (j : ℕ) : Type 0 where
    related_same : (p q : ℕ) → (rows j).related p q ≡ done j p q
    blocks-same : (p q : ℕ) → (rows j).blocks p q ≡ block (done j) p q

  same : (j : ℕ) → Same j
  unfolding actions_to each_action
  same zero = record { related_same = λ p q. refl; blocks-same = λ p q. refl }
  same (suc j) =
      let ih = same j in
      let K : (rows j).related ≡ done j = fun_ext (λ p. fun_ext (λ q. ih.related_same p q)) in
      let P : (rows j).blocks ≡ block (done j) = fun_ext (λ p. fun_ext (λ q. ih.blocks-same p q)) in
      record {
        related_same = λ p q.
            ap₂ (λ (x y : Rel). refined_related 256 (remove L (suc j) Y N) (into L (suc j) B) x y p q) K P
            ∙ fewer-hits L.states (remove L (suc j) Y N) (into L (suc j) B) (done j) (block (done j)) small (off j) p q
            ∙ refined-is L (done j) (steady j) B Y N (suc j) p q;
        blocks-same = λ p q.
            ap (λ (x : Rel). split_blocks (remove L (suc j) Y N) x p q) P
            ∙ refined-blocks-is L (done j) (steady j) B Y N (suc j) (free (suc j)) p q;
      }

  pub acted-related : (j p q : ℕ) → (rows j).related p q ≡ done j p q
  acted-related j = (same j).related_same

  pub acted-blocks : (j p q : ℕ) → (rows j).blocks p q ≡ block (done j) p q
  acted-blocks j = (same j).blocks-same

-- an action whose Rem is empty, on lists
pub idle-acted : (Rem Hits : Set) (related blocks touched : List ℕ) → length related ≡ 1024 → length blocks ≡ 1024 → ((j : ℕ) → get_or related j 0 < 2 ^ 64)
    → ((j : ℕ) → get_or blocks j 0 < 2 ^ 64) → ((q : ℕ) → q < 256 → Rem q ≡ false) → Acted Rem Hits related blocks related blocks touched
idle-acted Rem Hits related blocks touched long length-blocks words words-blocks none = record {
  related-is = sets-ext 256 related long words ∙ sets-cong 256 _ _ (empty-related Rem Hits (set_at related) (set_at blocks) none);
  blocks_is = sets-ext 256 blocks length-blocks words-blocks ∙ sets-cong 256 _ _ (empty-blocks Rem Hits (set_at related) (set_at blocks) none);
  related_same = λ _ _ _ _ _. refl;
  blocks-same = λ _ _ _ _ _. refl;
}

-- a hit is a state of the table
pub hits-owned : {t : List ℕ} → Formed t → (a : ℕ) (B : Set) (blocks : List ℕ) {hits : List ℕ} → Owning t blocks → hits ≡ row_of 4 (into (table_lts t) a B) → Owned (set_at blocks) (in_row hits)
unfolding table_lts
hits-owned {t} ok a B blocks own is g h e =
    let s = into-to (table_lts t) a B g (subst T (sym (sym (set-in _ is g h) ∙ e)) tt) in
    own g ((table-formed t ok).source g a s.0 s.1)

-- each state stays in its own block
pub owning-split : {t : List ℕ} (blocks : List ℕ) {blocks' : List ℕ} (Rem : Set) → Formed t → Owning t blocks → blocks' ≡ sets_of 256 (split_blocks Rem (set_at blocks)) → Owning t blocks'
owning-split blocks Rem ok own is g h =
    let u : g < 256 = omega (arith, h, ok.states) in
    sets-in 256 _ is g g u u
    ∙ owned-split (set_at blocks) (λ x. eqb x g) Rem (λ x _ e. ap (λ (y : ℕ). set_at blocks y y) (eqb-true x g e) ∙ own g h) g u (eq-eqb g g refl)

split-finer : (Rem : Set) (P : Rel) (g h : ℕ) → split_blocks Rem P g h ≡ true → P g h ≡ true
unfolding split_blocks
split-finer Rem P g h e = and-fst (P g h) _ e

-- ---- what a walk over the actions has done

-- the actions 1 to i are done, and `left` has the other bits of the word of actions; a row outside `touched` is as it was
pub record Going (t : List ℕ) (Rem Hits : ℕ → Set) (actions : ℕ) (shared : Set) (related blocks : List ℕ) (i left : ℕ) (related' blocks' touched : List ℕ) : Type 0 where
  pub rest : Rest actions i left
  pub most : i ≤ actions_of t
  pub related-is : related' ≡ sets_of 256 (acted Rem Hits i related blocks).related
  pub blocks_is : blocks' ≡ sets_of 256 (acted Rem Hits i related blocks).blocks
  pub untouched : Untouched related blocks related' blocks' touched
  pub parts : Parted (set_at blocks') shared
  pub finer : Finer (set_at blocks') (set_at blocks)
  pub own : Owning t blocks'

module _ (related blocks : List ℕ) {t places rows : List ℕ} {actions : ℕ} {B Y N : Set} {whole : Bool}
    (fixed : Fixed t places rows actions B Y N (set_at blocks) whole) where
  abbrev Rem : ℕ → Set
  Rem = removed_by t Y N

  abbrev Hits : ℕ → Set
  Hits = hits_by t B

  pub going-begin : {shared : Set} → length related ≡ 1024 → length blocks ≡ 1024 → ((j : ℕ) → get_or related j 0 < 2 ^ 64) → ((j : ℕ) → get_or blocks j 0 < 2 ^ 64)
      → Parted (set_at blocks) shared → Owning t blocks → (touched : List ℕ) → Going t Rem Hits actions shared related blocks 0 actions related blocks touched
  unfolding actions_to
  going-begin long length-blocks words words-blocks parts own touched = record {
    rest = rest-begin actions fixed.small;
    most = omega arith;
    related-is = sets-ext 256 related long words;
    blocks_is = sets-ext 256 blocks length-blocks words-blocks;
    untouched = record { related_same = λ _ _ _ _ _. refl; blocks-same = λ _ _ _ _ _. refl };
    parts = parts;
    finer = λ _ _ _ _ e. e;
    own = own;
  }

  module _ {shared : Set} {i left : ℕ} {related' blocks' touched : List ℕ} (now : Going t Rem Hits actions shared related blocks i left related' blocks' touched) where
    -- the next action
    module _ {j left' : ℕ} (step : (left ≡ 0 → ⊥) × (j ≡ count_trailing_zeros 64 left) × (left' ≡ bit_and left (left - 1))) where
      next : Stepped actions i left j
      next = rw step.1 (rest-next actions i left now.rest step.0)

      pub next-most : j + 1 ≤ actions_of t
      next-most = ⊎_elim (λ (l : j < actions_of t). omega (arith, l)) (λ (l : actions_of t ≤ j). absurd (clash next.member (fixed.no_more j l next.below))) (lt-or-ge j (actions_of t))

      skipped : (related' ≡ sets_of 256 (acted Rem Hits j related blocks).related) × (blocks' ≡ sets_of 256 (acted Rem Hits j related blocks).blocks)
      skipped = acted-skips Rem Hits i j _ {Q = set_at blocks} next.above now.related-is now.blocks_is
          (λ x l h. fixed.idle x (omega (arith, h, next-most)) (next.none x l h)) now.finer

      pub going_next : {related'' blocks'' changed touched' : List ℕ} → Acted (Rem (j + 1)) (Hits (j + 1)) related' blocks' related'' blocks'' changed → Parted (set_at blocks'') shared
          → touched' ≡ row_of 4 (λ q. in_row touched q || in_row changed q) → Going t Rem Hits actions shared related blocks (j + 1) left' related'' blocks'' touched'
      going_next {related''} {blocks''} {changed} {touched'} act parts join = record {
        rest = rw step.2 next.rest;
        most = next-most;
        related-is = more.0;
        blocks_is = more.1;
        untouched = record {
          related_same = λ g h u v e. let o = out g u e in act.related_same g h u v o.1 ∙ now.untouched.related_same g h u v o.0;
          blocks-same = λ g h u v e. let o = out g u e in act.blocks-same g h u v o.1 ∙ now.untouched.blocks-same g h u v o.0;
        };
        parts = parts;
        finer = λ g h u v e. now.finer g h u v (split-finer (Rem (j + 1)) (set_at blocks') g h (sym (sets-in 256 _ act.blocks_is g h u v) ∙ e));
        own = owning-split blocks' (Rem (j + 1)) fixed.index.formed now.own act.blocks_is;
      }
        where
          out : (g : ℕ) → g < 256 → in_row touched' g ≡ false → (in_row touched g ≡ false) × (in_row changed g ≡ false)
          out g u e = neither (in_row touched g) (in_row changed g) (sym (set-in _ join g u) ∙ e)

          more : (related'' ≡ sets_of 256 (acted Rem Hits (j + 1) related blocks).related) × (blocks'' ≡ sets_of 256 (acted Rem Hits (j + 1) related blocks).blocks)
          more = rw add-one (acted-next Rem Hits j _ skipped.0 skipped.1 (rw add-one at act))

    -- the end
    pub going_end : left ≡ 0 → Done t B Y N related blocks related' blocks' touched
    going_end none =
        let all = acted-skips Rem Hits i (actions_of t) _ {Q = set_at blocks} now.most now.related-is now.blocks_is
        (λ x l h. fixed.idle x h (rest_end actions i left now.rest none x l (omega (arith, h, fixed.index.formed.labels)))) now.finer in
        record { related-is = all.0; blocks_is = all.1; untouched = now.untouched }
