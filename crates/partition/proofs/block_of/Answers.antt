-- `partition::block_of` meets its contract. Assumes nothing.
use mathlib.Core.Path.{◌≡◌, sym, ap, ap₂, ◌∙◌, subst⁻¹}
use mathlib.Core.Bool.{Bool, true, false, not, ◌&&◌, ◌||◌, and-true}
use mathlib.Core.List.{List}
use mathlib.Core.Logic.{⊎_elim}
use Prim.Native.Nat.{ℕ, ◌+◌, ◌<◌, ◌≤◌}
use native.Mathlib.Omega.{arith}
use lib.Dec.{eqb}
use lib.ListN.{length}
use Rattle.lts.specs.Refinement.{block}
use Rattle.lts.specs.System.{Rel}
use Rattle.rows.specs.Rows.{in_row, row_of, states_below, Next}
use Rattle.sets.specs.Sets.{set_at}
use Rattle.lts.proofs.Below.{clash, either, and-fst, and-snd}
use Rattle.rows.proofs.Rows.{row_of-cong, states-in}
use Rattle.sets.proofs.Lists.{set-in, set_long}
use Rattle.partition.specs.Pending.{Ordered}
use Rattle.partition.proofs.Laws.{states-none, states-skip, states-take, states-same}
use Rattle.partition.proofs.block_of.Goals.{At-loop-q, then-contains, else-contains}
use Rattle.partition.proofs.block_of.Invariants.{Found}
use Rattle.partition.proofs.block_of.Goals as goal

module _ (n p : ℕ) (K : Rel) (ok : Ordered n K) (hp : p < 256) where
  found_first : (left : List ℕ) (q : ℕ) {out : List ℕ} → out ≡ row_of 4 (states_below 0 (block K p)) → left ≡ row_of 4 (K p) → Next (in_row left) 256 0 q → Found K p out left q
  unfolding block
  found_first left q none e next = record {
    bound = next.below;
    members = none ∙ row_of-cong 4 _ _ (λ x h. states-same (block K p) 0 q (omega arith) (λ y l u. apart y (omega (arith, u, next.below)) (next.none y l u)) x);
    long = set_long _ e;
    member = next.member;
    above = λ y h t. sym (set-in (K p) e y h) ∙ t;
    gone = λ y l h t. apart y h t;
  }
    where
      apart : (y : ℕ) → y < 256 → in_row left y ≡ false → K p y && K y p ≡ false
      apart y h t = ap (λ (b : Bool). b && K y p) (sym (set-in (K p) e y h) ∙ t)

  -- q is a member
  found_in : {out out' left : List ℕ} {q q' : ℕ} → Found K p out left q → q < 256 → K q p ≡ true → out' ≡ row_of (length out) (λ x. eqb x q || in_row out x)
      → Next (in_row left) 256 (q + 1) q' → Found K p out' left q'
  unfolding block
  found_in {out} {out'} {left} {q} {q'} f h back e next = record {
    bound = next.below;
    members = e ∙ states-take (block K p) q out f.members (ap₂ ◌&&◌ (f.above q h (f.member h)) back)
        ∙ row_of-cong 4 _ _ (λ x l. states-same (block K p) (q + 1) q' next.above (λ y l u. f.gone y (omega (arith, l)) (omega (arith, u, next.below)) (next.none y l u)) x);
    long = f.long;
    member = next.member;
    above = f.above;
    gone = λ y l u t. f.gone y (omega (arith, l, next.above)) u t;
  }

  -- q is none, nor is what q is related to
  found-out : {out left left' above : List ℕ} {q q' : ℕ} → Found K p out left q → q < 256 → K q p ≡ false → above ≡ row_of 4 (K q)
      → left' ≡ row_of 4 (λ y. in_row left y && not (in_row above y)) → Next (in_row left') 256 (q + 1) q' → Found K p out left' q'
  unfolding block
  found-out {out} {left} {left'} {above} {q} {q'} f h back row e next = record {
    bound = next.below;
    members = f.members ∙ states-skip (block K p) q (ap₂ ◌&&◌ (f.above q h (f.member h)) back)
        ∙ row_of-cong 4 _ _ (λ x l. states-same (block K p) (q + 1) q' next.above (λ y l u. out_of y (omega (arith, l)) (omega (arith, u, next.below)) (next.none y l u)) x);
    long = set_long _ e;
    member = next.member;
    above = λ y u t. f.above y u (and-fst (in_row left y) (not (in_row above y)) (sym (at y u) ∙ t));
    gone = λ y l u t. out_of y (omega (arith, l, next.above)) u t;
  }
    where
      at : (y : ℕ) → y < 256 → in_row left' y ≡ in_row left y && not (in_row above y)
      at y u = set-in (λ y. in_row left y && not (in_row above y)) e y u

      out_of : (y : ℕ) → q ≤ y → y < 256 → in_row left' y ≡ false → K p y && K y p ≡ false
      out_of y l u t =
          ⊎_elim
          (λ (a : K q y ≡ true). ⊎_elim (λ (m : K p y && K y p ≡ true). absurd (clash (ok.trans q y p h u hp a (and-snd (K p y) (K y p) m)) back)) (λ m. m) (either (K p y && K y p)))
          (λ (a : K q y ≡ false). f.gone y l u (sym (at y u ∙ ap (λ (b : Bool). in_row left y && not b) (set-in (K q) row y u ∙ a) ∙ and-true (in_row left y)) ∙ t))
          (either (K q y))

  found-end : {out left : List ℕ} {q : ℕ} → Found K p out left q → 256 ≤ q → out ≡ row_of 4 (block K p)
  found-end {q = q} f end = f.members ∙ row_of-cong 4 _ _ (λ x h. states-in q (block K p) x (omega (arith, h, end)))

pub loop-q-init : goal.loop-q-init
loop-q-init c =
    let K = set_at c.args.related.now in
    found_first c.requires.2.0 c.args.p K c.requires.2.1 c.requires.1 _ _ (states-none (block K c.args.p)) c.at-left.ensures c.next_state-q.ensures

size : (c : At-loop-q) → length c.loop-q.out ≡ 4
size c = set_long _ c.loop-q.invariant.members

pub returns : goal.returns
returns c =
    found-end c.requires.2.0 c.args.p (set_at c.args.related.now) c.requires.2.1 c.requires.1 c.loop-q.invariant c.loop-q-test.false

pub loop-q-preserved : goal.loop-q-preserved
loop-q-preserved c =
    let n = c.requires.2.0 in
    let p = c.args.p in
    let K = set_at c.args.related.now in
    let ok = c.requires.2.1 in
    let hp = c.requires.1 in
    let q = c.loop-q.q in
    let q' = c.next_state-q-in-loop-q.result in
    let inv = c.loop-q.invariant in
    let hq = c.loop-q-test.true in
    let back : (b : Bool) → c.contains.result ≡ b → K q p ≡ b = λ b e. sym (set-in (K q) c.at-above.ensures p hp) ∙ sym c.contains.ensures ∙ e in
    elim c.if-contains.branch [
      | then-contains w ↦ subst⁻¹ (λ (l : List ℕ). Next (in_row l) 256 (q + 1) q' → Found K p c.if-contains.out l q') w.left-is (found_in n p K ok hp inv hq (back true w.if-contains.true) (w.out-is ∙ w.insert.ensures)) c.next_state-q-in-loop-q.ensures
      | else-contains w ↦ subst⁻¹ (λ (o : List ℕ). Found K p o c.if-contains.left q') w.out-is (found-out n p K ok hp inv hq (back false w.if-contains.false) c.at-above.ensures (w.left-is ∙ w.minus-rest.ensures) c.next_state-q-in-loop-q.ensures)
    ]
