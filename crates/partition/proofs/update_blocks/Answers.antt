-- `partition::update_blocks` meets its contract. Assumes nothing.
use mathlib.Core.Path.{◌≡◌, refl, sym, ap, ap₂, ◌∙◌}
use mathlib.Core.Bool.{Bool, true, false, cond, not, ◌&&◌, ◌||◌, and-true, and-false, or-false}
use mathlib.Core.List.{List, ◌++◌}
use mathlib.Core.Logic.{⊎_elim}
use Prim.Native.Nat.{ℕ, ◌+◌, ◌^◌, ◌<◌, ◌≤◌}
use native.Mathlib.Omega.{arith}
use lib.Dec.{eqb}
use lib.ListN.{length, drop, get_or}
use borrow.Author.Tests.{eqb-true, eqb-false, eq-eqb, ne_eqb}
use Rattle.lts.specs.Bounded.{lowest}
use Rattle.lts.specs.System.{Set, Rel}
use Rattle.rows.specs.Rows.{in_row, row_of, Next}
use Rattle.sets.specs.Sets.{set_at}
use Rattle.sets.specs.Parts.{Parted, Owned}
use Rattle.lts.proofs.Below.{clash, either, bool_iff, and-fst, lowest-lt, lowest-at, lowest-agree}
use Rattle.rows.proofs.Rows.{row_of-cong, row-ext, in_row-written, length-written}
use Rattle.sets.proofs.Lists.{set-in, set_long}
use Rattle.sets.proofs.Sweep.{sweep-first, sweep-next, sweep-end}
use Rattle.partition.specs.Pending.{pending_in}
use Rattle.partition.proofs.Laws.{differs}
use Rattle.partition.proofs.update_blocks.Invariants.{Updated, Right}
use Rattle.partition.proofs.update_blocks.Goals as goal

-- the block of p, and its lowest state
module _ (p : ℕ) (K W P : Rel) (S : Set) (parted : Parted P S) (hp : p < 256) (own : P p p ≡ true) where
  abbrev low : ℕ
  low = lowest 256 (P p)

  low_below : low < 256
  low_below = lowest-lt 256 (P p) p hp own

  -- the members have the same block
  low_same : (x : ℕ) → x < 256 → P p x ≡ true → lowest 256 (P x) ≡ low
  low_same x hx e =
      lowest-agree 256 (P x) (P p) (λ q hq. bool_iff (parted.trans p x q hp hx hq e) (parted.trans x p q hx hp hq (parted.sym p x hp hx e)))

  -- none but the lowest can be pending
  pending-low : (x : ℕ) → x < 256 → P p x ≡ true → differs W K low && eqb x low ≡ pending_in 256 K W P x
  unfolding pending_in
  pending-low x hx e =
      ⊎_elim
      (λ (t : eqb x low ≡ true).
      let same : x ≡ low = eqb-true x low t in
      ap (λ (b : Bool). differs W K low && b) t ∙ and-true (differs W K low) ∙ ap (differs W K) (sym same)
      ∙ sym (ap (λ (b : Bool). b && differs W K x) (eq-eqb (lowest 256 (P x)) x (low_same x hx e ∙ sym same))))
      (λ (t : eqb x low ≡ false).
      ap (λ (b : Bool). differs W K low && b) t ∙ and-false (differs W K low)
      ∙ sym (ap (λ (b : Bool). b && differs W K x) (ne_eqb (lowest 256 (P x)) x (λ same. eqb-false x low t (sym same ∙ low_same x hx e)))))
      (either (eqb x low))

  -- the block goes out of the set Old, and its lowest state comes in if its rows differ
  block-updated : (Old : Set) (x : ℕ) → x < 256 → (differs W K low && eqb x low) || (Old x && not (P p x)) ≡ cond (P p x) (pending_in 256 K W P x) (Old x)
  block-updated Old x hx =
      ⊎_elim
      (λ (e : P p x ≡ true).
      ap (λ (b : Bool). (differs W K low && eqb x low) || (Old x && not b)) e ∙ ap (λ (b : Bool). (differs W K low && eqb x low) || b) (and-false (Old x))
      ∙ or-false (differs W K low && eqb x low) ∙ pending-low x hx e ∙ sym (ap (λ (b : Bool). cond b (pending_in 256 K W P x) (Old x)) e))
      (λ (e : P p x ≡ false).
      ap₂ (λ (a b : Bool). (differs W K low && a) || (Old x && not b)) (ne_eqb x low (λ same. clash (lowest-at 256 (P p) low_below) (ap (P p) (sym same) ∙ e))) e
      ∙ ap₂ ◌||◌ (and-false (differs W K low)) (and-true (Old x)) ∙ sym (ap (λ (b : Bool). cond b (pending_in 256 K W P x) (Old x)) e))
      (either (P p x))

update-first : (P : Rel) (New : Set) {pending left : List ℕ} {p : ℕ} → length pending ≡ 4 → ((j : ℕ) → get_or pending j 0 < 2 ^ 64) → Owned P (in_row left)
    → ((x : ℕ) → x < 256 → in_row left x ≡ false → in_row pending x ≡ New x) → Next (in_row left) 256 0 p → Updated P New pending left p
update-first P New {pending} {left} long fits owned same next = record {
  long = long;
  words = row-ext 4 (in_row pending) pending long fits (λ q h. refl);
  owned = owned;
  swept = sweep-first (Right New pending) (in_row left) same next;
}

-- the block of p goes out, and its lowest state comes in if its rows differ
module _ (K W P : Rel) (S : Set) (parted : Parted P S) (p : ℕ) (hp : p < 256) {row : List ℕ} (row_is : row ≡ row_of 4 (P p)) where
  abbrev New : Set
  New = pending_in 256 K W P

  low-is : lowest 256 (in_row row) ≡ lowest 256 (P p)
  low-is = lowest-agree 256 _ _ (λ q h. set-in (P p) row_is q h)

  row_below : P p p ≡ true → lowest 256 (in_row row) < 256
  row_below own = omega (arith, low-is, low_below p K W P S parted hp own)

  update-next : {pending mid pending' left left' : List ℕ} {p' : ℕ} → mid ≡ row_of 4 (λ q. in_row pending q && not (in_row row q)) ++ drop 4 pending
      → pending' ≡ row_of 4 (λ x. (differs W K (lowest 256 (in_row row)) && eqb x (lowest 256 (in_row row))) || in_row mid x)
      → left' ≡ row_of 4 (λ q. in_row left q && not (in_row row q)) → Next (in_row left') 256 (p + 1) p' → Updated P New pending left p → Updated P New pending' left' p'
  update-next {pending} {mid} {pending'} {left} {left'} minus put less next u = record {
    long = set_long Put put;
    words = put ∙ row_of-cong 4 _ _ (λ q h. sym (set-in Put put q h));
    owned = λ g h e. u.owned g h (and-fst (in_row left g) (not (P p g)) (sym (less-at g h) ∙ e));
    swept = sweep-next P (Right New pending) (Right New pending') (in_row left) (in_row left') less-at
        (λ y h old. at y h ∙ ⊎_elim (λ (e : P p y ≡ true). ap (λ (b : Bool). cond b (New y) (in_row pending y)) e) (λ (e : P p y ≡ false). ap (λ (b : Bool). cond b (New y) (in_row pending y)) e ∙ old) (either (P p y)))
        (right p hp own) right u.swept next;
  }
    where
      own : P p p ≡ true
      own = u.owned p hp (u.swept.member hp)

      Put : Set
      Put x = (differs W K (lowest 256 (in_row row)) && eqb x (lowest 256 (in_row row))) || in_row mid x

      mid_at : (x : ℕ) → x < 256 → in_row mid x ≡ in_row pending x && not (P p x)
      mid_at x h =
          ap (λ (l : List ℕ). in_row l x) minus ∙ in_row-written 4 (λ q. in_row pending q && not (in_row row q)) (drop 4 pending) x h
          ∙ ap (λ (b : Bool). in_row pending x && not b) (set-in (P p) row_is x h)

      less-at : (y : ℕ) → y < 256 → in_row left' y ≡ in_row left y && not (P p y)
      less-at y h = set-in (λ q. in_row left q && not (in_row row q)) less y h ∙ ap (λ (b : Bool). in_row left y && not b) (set-in (P p) row_is y h)

      at : (x : ℕ) → x < 256 → in_row pending' x ≡ cond (P p x) (New x) (in_row pending x)
      at x h =
          set-in Put put x h ∙ ap (λ (b : Bool). (differs W K (lowest 256 (in_row row)) && eqb x (lowest 256 (in_row row))) || b) (mid_at x h)
          ∙ ap (λ (l : ℕ). (differs W K l && eqb x l) || (in_row pending x && not (P p x))) low-is ∙ block-updated p K W P S parted hp own (in_row pending) x h

      right : (y : ℕ) → y < 256 → P p y ≡ true → in_row pending' y ≡ New y
      right y h e = at y h ∙ ap (λ (b : Bool). cond b (New y) (in_row pending y)) e

update-end : (P : Rel) (New : Set) {pending left : List ℕ} {p : ℕ} → 256 ≤ p → Updated P New pending left p → pending ≡ row_of 4 New
update-end P New {pending} {left} {p} end u = u.words ∙ row_of-cong 4 _ _ (λ q h. sweep-end (Right New pending) (in_row left) p end u.swept q h)

pub returns : goal.returns
returns c =
    update-end (set_at c.args.blocks.now) (pending_in 256 (set_at c.args.related.now) (set_at c.args.viewed.now) (set_at c.args.blocks.now)) c.loop-p-test.false c.loop-p.invariant

pub loop-p-init : goal.loop-p-init
loop-p-init c =
    update-first (set_at c.args.blocks.now) (pending_in 256 (set_at c.args.related.now) (set_at c.args.viewed.now) (set_at c.args.blocks.now)) c.requires.related_len.3 (λ j. (c.type_inv.pending j).fits)
    c.requires.owned.1 c.requires.by_index c.next_state-p.ensures

pub update_block-requires : goal.update_block-requires
update_block-requires c =
    let inv = c.loop-p.invariant in
    let hp = c.loop-p-test.true in (
      c.requires.related_len.0,
      c.requires.related_len.1,
      ap length c.row_minus.ensures ∙ length-written 4 _ c.loop-p.pending (omega (arith, inv.long)) ∙ inv.long,
      row_below (set_at c.args.related.now) (set_at c.args.viewed.now) (set_at c.args.blocks.now) c.requires.owned.0.0 c.requires.owned.0.1 c.loop-p.p hp
          c.at-block.ensures (inv.owned _ hp (inv.swept.member hp)),
    )

pub loop-p-preserved : goal.loop-p-preserved
loop-p-preserved c =
    update-next (set_at c.args.related.now) (set_at c.args.viewed.now) (set_at c.args.blocks.now) c.requires.owned.0.0 c.requires.owned.0.1 c.loop-p.p c.loop-p-test.true
    c.at-block.ensures c.row_minus.ensures c.update_block.ensures c.minus-rest.ensures c.next_state-p-in-loop-p.ensures c.loop-p.invariant
