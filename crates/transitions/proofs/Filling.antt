-- How a table is filled: what is written grows by target, by action and by state. Assumes nothing.
use Prim.Native.Nat.{ℕ, zero, suc, ◌+◌, ◌-◌, ◌*◌, ◌/◌, ◌%◌, ◌^◌, ◌≤◌, ◌<◌}
use mathlib.Core.Path.{◌≡◌, refl, sym, ap, ◌∙◌, subst}
use mathlib.Core.Bool.{Bool, true, false, cond, ◌&&◌}
use mathlib.Core.List.{List, [], ◌∷◌, ◌++◌, append-nil}
use mathlib.Core.Logic.{⊎_elim}
use native.Mathlib.Omega.{arith}
use native.Mathlib.Nat.{not-suc-le-zero, le_refl, le_of_suc-le-suc, le_step, eq-or-lt_of_le}
use native.Mathlib.Numerals.{add-one}
use native.Mathlib.Decide.{ℕ_discrete}
use lib.ListN.{length, get_or, set, drop, length-set, length-append, replicate, length-replicate}
use lib.Seq.{get_or-set_same, get_or-set_other}
use lib.Dec.{eqb, ltb}
use lib.Bits.{bit_and}
use lib.Count.{count_trailing_zeros}
use borrow.Author.Tests.{eq-eqb, ne_eqb, lt-ltb, le-ltb}
use Rattle.lts.specs.Bounded.{passing, concat_below}
use Rattle.lts.specs.System.{Lts}
use Rattle.lts.specs.Transitions.{Transition, transitions_to, transitions_of, transitions_below}
use Rattle.lts.proofs.Count.{passing-shorter}
use Rattle.lts.proofs.Below.{lt-or-ge, length-list_below}
use Rattle.lts.proofs.Lists.{passing-none, passing-same, passing-more, passing-room, concat-grows}
use Rattle.lts.proofs.Transitions.{to_none, to-more, to-length, up_none, up_more, up-grows}
use Rattle.rows.specs.Rows.{bit, in_row, row_of, Next}
use Rattle.rows.proofs.Rows.{part_in, get_or-zeros, in_row-of, in_row-zeros, row_of-cong}
use Rattle.sets.proofs.Walks.{Rest, Stepped, rest-begin, rest-next, rest_end}
use Rattle.transitions.specs.Table.{mark_at, offset_at, entry_at, table_transitions}
use Rattle.transitions.specs.Filling.{action_set, row_transitions, with_transition, with_state, Covers, Extends, Filling}
use Rattle.transitions.proofs.Writes.{extends-none, extends-one, extends-append, table_same}

-- ---- by target

-- the next target of action a, which the words from 4 * a on hold
pub next-held : (sets : List ℕ) (a : ℕ) {row : List ℕ} {k from r : ℕ} → row ≡ drop (4 * a) sets → Next (in_row row) k from r → Next (action_set sets a) k from r
next-held sets a {row} e x = record {
  above = x.above;
  below = x.below;
  none = λ t l u. sym (at t) ∙ x.none t l u;
  member = λ l. sym (at _) ∙ x.member l;
}
  where
    at : (t : ℕ) → in_row row t ≡ action_set sets a t
    at t = ap (λ (l : List ℕ). in_row l t) e ∙ part_in sets a t

-- the transitions to the targets below `done` are written, and q is the next target
pub record Writing (f : ℕ → Bool) (p a i : ℕ) (t₀ : List ℕ) (at q : ℕ) (t : List ℕ) : Type 0 where
  pub done : ℕ
  pub up : done ≤ 256
  pub next : Next f 256 done q
  pub place : at ≡ i + length (passing done f)
  pub wrote : Extends (transitions_to p a (passing done f)) i t₀ t

pub writing_start : {f : ℕ → Bool} {p a q : ℕ} {t₀ : List ℕ} (i : ℕ) → Next f 256 0 q → Writing f p a i t₀ i q t₀
writing_start {t₀ = t₀} i x = record { done = 0; up = omega arith; next = x; place = rw passing-none (omega arith); wrote = rw to_none (extends-none i t₀) }

module _ {f : ℕ → Bool} {p a i : ℕ} {t₀ : List ℕ} {at q : ℕ} {t : List ℕ} (g : Writing f p a i t₀ at q t) where
  -- no target stands between
  none-till : (m : ℕ) → g.done ≤ m → m ≤ q → passing m f ≡ passing g.done f
  none-till m l u = passing-shorter g.done m f l (λ x v w. g.next.none x v (omega arith))

  here : q < 256 → (f q ≡ true) × (at ≡ i + length (passing q f))
  here l = (g.next.member l, rw (none-till q g.next.above (le_refl q)) g.place)

  pub writing-room : q < 256 → at < i + length (passing 256 f)
  writing-room l = let e = here l in omega (arith, e.1, passing-room f 256 q l e.0)

  pub writing_more : {q' : ℕ} → length t₀ ≡ 3588 → at < 1024 → q < 256 → Next f 256 (q + 1) q' → Writing f p a i t₀ (at + 1) q' (with_transition t at p a q)
  writing_more long room l x =
      let e = here l in
      let w = rw (sym (none-till q g.next.above (le_refl q))) at g.wrote in
      let place : at ≡ i + length (transitions_to p a (passing q f)) = rw to-length e.1 in
      record {
        done = q + 1;
        up = omega arith;
        next = x;
        place = rw (passing-more f q e.0, length-append) (omega (arith, e.1));
        wrote = rw (to-more p a f q e.0) (extends-append i _ _ w (subst (λ (j : ℕ). Extends (record { source = p; action = a; target = q } ∷ []) j t (with_transition t at p a q)) place (extends-one t (w.long ∙ long) at p a q room)));
      }

  pub writing-done : 256 ≤ q → (at ≡ i + length (passing 256 f)) × Extends (transitions_to p a (passing 256 f)) i t₀ t
  writing-done l = rw (none-till 256 g.up l) (g.place, g.wrote)

-- ---- by action

-- from n on the lists are empty
pub concat-shorter {ℓ} : {A : Type ℓ} (n m : ℕ) (f : ℕ → List A) → n ≤ m → ((i : ℕ) → n ≤ i → i < m → f i ≡ []) → concat_below m f ≡ concat_below n f
unfolding concat_below
concat-shorter n zero f h none = let e : 0 ≡ n = omega arith in ap (λ (k : ℕ). concat_below k f) e
concat-shorter {A = A} n (suc m) f h none =
    ⊎_elim (λ (e : n ≡ suc m). ap (λ (k : ℕ). concat_below k f) (sym e))
    (λ (l : n < suc m). ap (λ (x : List A). concat_below m f ++ x) (none m (le_of_suc-le-suc l) (le_refl (suc m))) ∙ append-nil (concat_below m f)
    ∙ concat-shorter n m f (le_of_suc-le-suc l) (λ i a b. none i a (le_step b)))
    (eq-or-lt_of_le h)

-- an action without a target
pub to-empty : (p a n : ℕ) (f : ℕ → Bool) → ((t : ℕ) → t < n → f t ≡ false) → transitions_to p a (passing n f) ≡ []
to-empty p a n f none = ap (transitions_to p a) (passing-shorter 0 n f (omega arith) (λ t l u. none t u)) ∙ to_none p a f

module _ (sets : List ℕ) (p : ℕ) where
  pub row-none : row_transitions sets p 0 ≡ []
  unfolding row_transitions concat_below
  row-none = refl

  pub row_more : (a : ℕ) → row_transitions sets p (a + 1) ≡ row_transitions sets p a ++ transitions_to p (a + 1) (passing 256 (action_set sets (a + 1)))
  unfolding row_transitions concat_below
  row_more a = rw add-one

  pub row-grows : (m a : ℕ) → a ≤ m → length (row_transitions sets p a) ≤ length (row_transitions sets p m)
  unfolding row_transitions
  row-grows m a l = concat-grows _ m a l

  -- one action more fits, and is written
  grown : (a : ℕ) → length (row_transitions sets p (a + 1)) ≡ length (row_transitions sets p a) + length (passing 256 (action_set sets (a + 1)))
  grown a = rw (row_more, length-append, to-length)

  pub row_room : (i m a at : ℕ) → a < m → at ≡ i + length (row_transitions sets p a) → at + length (passing 256 (action_set sets (a + 1))) ≤ i + length (row_transitions sets p m)
  row_room i m a at l e = let k = row-grows m (a + 1) (omega arith) in omega (arith, k, grown a, e)

  pub row-place : (i a at : ℕ) {r : ℕ} → at ≡ i + length (row_transitions sets p a) → r ≡ at + length (passing 256 (action_set sets (a + 1)))
      → r ≡ i + length (row_transitions sets p (a + 1))
  row-place i a at e f = omega (arith, grown a, e, f)

  pub row-extends : (i a at : ℕ) {t₀ t₁ t₂ : List ℕ} → at ≡ i + length (row_transitions sets p a) → Extends (row_transitions sets p a) i t₀ t₁
      → Extends (transitions_to p (a + 1) (passing 256 (action_set sets (a + 1)))) at t₁ t₂ → Extends (row_transitions sets p (a + 1)) i t₀ t₂
  row-extends i a at e f g = rw row_more (extends-append i _ _ f (rw e at g))

  -- the actions from i on and below j have no target
  pub row-skip : (i j : ℕ) → i ≤ j → ((a t : ℕ) → i ≤ a → a < j → t < 256 → action_set sets (suc a) t ≡ false)
      → row_transitions sets p j ≡ row_transitions sets p i
  unfolding row_transitions
  row-skip i j l none = concat-shorter i j _ l (λ a u v. to-empty p (suc a) 256 _ (λ t w. none a t u v w))

-- ---- by the bits of a mask

-- the actions up to `done` are written and their sets emptied, and `left` has the mask's bits from there on
pub record Emptying (sets₀ : List ℕ) (used p i : ℕ) (t₀ : List ℕ) (left at : ℕ) (t sets : List ℕ) : Type 0 where
  pub done : ℕ
  pub rest : Rest used done left
  pub place : at ≡ i + length (row_transitions sets₀ p done)
  pub wrote : Extends (row_transitions sets₀ p done) i t₀ t
  pub held : sets ≡ row_of 260 (λ x. ltb done (x / 256) && in_row sets₀ x)

module _ (sets₀ : List ℕ) {used : ℕ} (c : Covers used (in_row sets₀)) where
  pub emptying-start : {p i : ℕ} {t₀ : List ℕ} → used < 2 ^ 64 → sets₀ ≡ row_of 260 (in_row sets₀) → Emptying sets₀ used p i t₀ used i t₀ sets₀
  emptying-start {p} {i} {t₀} small words = record {
    done = 0;
    rest = rest-begin used small;
    place = rw row-none (omega arith);
    wrote = rw row-none (extends-none i t₀);
    held = words ∙ row_of-cong 260 _ _ (λ x u. ⊎_elim (low x u) (high x) (lt-or-ge x 256));
  }
    where
      low : (x : ℕ) → x < 16640 → x < 256 → in_row sets₀ x ≡ ltb 0 (x / 256) && in_row sets₀ x
      low x u l = c.none x u (λ k. absurd (omega (arith, k, l))) ∙ sym (ap (λ (b : Bool). b && in_row sets₀ x) (le-ltb 0 (x / 256) (omega (arith, l))))

      high : (x : ℕ) → 256 ≤ x → in_row sets₀ x ≡ ltb 0 (x / 256) && in_row sets₀ x
      high x l = sym (ap (λ (b : Bool). b && in_row sets₀ x) (lt-ltb 0 (x / 256) (omega (arith, l))))

  -- the mask has no bit from k on and below j
  module _ (k j : ℕ) (none : (a : ℕ) → k ≤ a → a < j → bit used a ≡ false) where
    unmasked : (p : ℕ) → k ≤ j → j ≤ 64 → row_transitions sets₀ p j ≡ row_transitions sets₀ p k
    unmasked p l m = row-skip sets₀ p k j l (λ a t u v w.
        let place : (256 * suc a + t) / 256 - 1 ≡ a = omega (arith, w) in
        c.none (256 * suc a + t) (omega (arith, v, w, m)) (λ y. ap (bit used) place ∙ none a u v))

    unheld : (x : ℕ) → x < 16640 → x / 256 ≤ j → ltb k (x / 256) && in_row sets₀ x ≡ false
    unheld x u l =
        ⊎_elim (λ (v : k < x / 256). ap (λ (b : Bool). b && in_row sets₀ x) (lt-ltb k (x / 256) v)
        ∙ c.none x u (λ y. none (x / 256 - 1) (omega (arith, v)) (omega (arith, v, l))))
        (λ (v : x / 256 ≤ k). ap (λ (b : Bool). b && in_row sets₀ x) (le-ltb k (x / 256) v)) (lt-or-ge k (x / 256))

  module _ {p i : ℕ} {t₀ : List ℕ} {left at : ℕ} {t sets : List ℕ} (g : Emptying sets₀ used p i t₀ left at t sets) where
    pub emptying-long : length sets ≡ 260
    emptying-long = ap length g.held ∙ length-list_below 260 _

    was : (x : ℕ) → x < 16640 → in_row sets x ≡ ltb g.done (x / 256) && in_row sets₀ x
    was x u = ap (λ (l : List ℕ). in_row l x) g.held ∙ in_row-of 260 _ x u

    module _ (ne : left ≡ 0 → ⊥) where
      abbrev q : ℕ
      q = count_trailing_zeros 64 left

      step : Stepped used g.done left q
      step = rest-next used g.done left g.rest ne

      pub emptying-below : q < 64
      emptying-below = step.below

      -- nothing stands between
      between : row_transitions sets₀ p q ≡ row_transitions sets₀ p g.done
      between = unmasked g.done q step.none p step.above (omega (arith, step.below))

      reached : at ≡ i + length (row_transitions sets₀ p q)
      reached = g.place ∙ ap (λ (vs : List Transition). i + length vs) (sym between)

      same : passing 256 (action_set sets (q + 1)) ≡ passing 256 (action_set sets₀ (q + 1))
      same = passing-same 256 _ _ (λ u l. was (256 * (q + 1) + u) (omega (arith, step.below, l))
          ∙ ap (λ (b : Bool). b && action_set sets₀ (q + 1) u) (lt-ltb g.done ((256 * (q + 1) + u) / 256) (omega (arith, step.above, l))))

      pub emptying-room : at + length (passing 256 (action_set sets (q + 1))) ≤ i + length (row_transitions sets₀ p 64)
      emptying-room = omega (arith, row_room sets₀ p i 64 q at step.below reached, ap length same)

      pub emptying-more : {r : ℕ} {t' sets' : List ℕ} → r ≡ at + length (passing 256 (action_set sets (q + 1)))
          → Extends (transitions_to p (q + 1) (passing 256 (action_set sets (q + 1)))) at t t'
          → sets' ≡ row_of (length sets) (λ x. cond (eqb (x / 256) (q + 1)) (in_row (replicate 4 0) (x % 256)) (in_row sets x))
          → Emptying sets₀ used p i t₀ (bit_and left (left - 1)) r t' sets'
      emptying-more {r} {t'} {sets'} e w n = record {
        done = q + 1;
        rest = step.rest;
        place = row-place sets₀ p i q at reached (e ∙ ap (λ (vs : List ℕ). at + length vs) same);
        wrote = row-extends sets₀ p i q at reached (subst (λ (vs : List Transition). Extends vs i t₀ t) (sym between) g.wrote)
            (subst (λ (vs : List ℕ). Extends (transitions_to p (q + 1) vs) at t t') same w);
        held = n ∙ ap (λ (k : ℕ). row_of k (λ x. cond (eqb (x / 256) (q + 1)) (in_row (replicate 4 0) (x % 256)) (in_row sets x))) emptying-long
            ∙ row_of-cong 260 _ _ (λ x u. go x u (ℕ_discrete (x / 256) (q + 1)));
      }
        where
          go : (x : ℕ) → x < 16640 → Dec (x / 256 ≡ q + 1)
              → cond (eqb (x / 256) (q + 1)) (in_row (replicate 4 0) (x % 256)) (in_row sets x) ≡ ltb (q + 1) (x / 256) && in_row sets₀ x
          go x u (yes d) =
              ap (λ (b : Bool). cond b (in_row (replicate 4 0) (x % 256)) (in_row sets x)) (eq-eqb (x / 256) (q + 1) d) ∙ in_row-zeros 4 (x % 256)
              ∙ sym (ap (λ (b : Bool). b && in_row sets₀ x) (le-ltb (q + 1) (x / 256) (omega (arith, d))))
          go x u (no d) =
              ap (λ (b : Bool). cond b (in_row (replicate 4 0) (x % 256)) (in_row sets x)) (ne_eqb (x / 256) (q + 1) d) ∙ was x u
              ∙ ⊎_elim (λ (l : q + 1 < x / 256). ap (λ (b : Bool). b && in_row sets₀ x)
              (lt-ltb g.done (x / 256) (omega (arith, step.above, l)) ∙ sym (lt-ltb (q + 1) (x / 256) l)))
              (λ (l : x / 256 ≤ q + 1). unheld g.done q step.none x u (omega (arith, l, d))
              ∙ sym (ap (λ (b : Bool). b && in_row sets₀ x) (le-ltb (q + 1) (x / 256) l)))
              (lt-or-ge (q + 1) (x / 256))

    module _ (e : left ≡ 0) where
      all : row_transitions sets₀ p 64 ≡ row_transitions sets₀ p g.done
      all = unmasked g.done 64 (rest_end used g.done left g.rest e) p g.rest.place (omega arith)

      pub emptying-done : (at ≡ i + length (row_transitions sets₀ p 64)) × (Extends (row_transitions sets₀ p 64) i t₀ t × (sets ≡ row_of 260 (λ x. false)))
      emptying-done = (
        g.place ∙ ap (λ (vs : List Transition). i + length vs) (sym all),
        (
          subst (λ (vs : List Transition). Extends vs i t₀ t) (sym all) g.wrote,
          g.held ∙ row_of-cong 260 _ _ (λ x u. unheld g.done 64 (rest_end used g.done left g.rest e) x u (omega (arith, u))),
        ),
      )

-- ---- by state

none_yet : (t : List ℕ) → table_transitions t 0 ≡ []
unfolding table_transitions concat_below
none_yet t = refl

pub filling-start : (L : Lts) → Filling L 0 0 (replicate 3588 0)
filling-start L = record {
  long = length-replicate {A = ℕ} 3588 zero;
  place = rw up_none;
  list = none_yet (replicate 3588 0) ∙ sym (up_none L);
  mark = λ q u. absurd (not-suc-le-zero u);
  offset = λ q u. let e : q ≡ 0 = omega arith in rw (e, up_none) (get_or-zeros 3588 259);
}

-- a state's mark and row end are written
module _ (t : List ℕ) (p mark end : ℕ) (long : length t ≡ 3588) (room : p < 256) where
  t₁ : List ℕ
  t₁ = set t (3 + p) mark

  long₁ : length t₁ ≡ 3588
  unfolding t₁
  long₁ = length-set t (3 + p) mark ∙ long

  state-long : length (with_state t p mark end) ≡ 3588
  unfolding t₁
  state-long = length-set t₁ (259 + (p + 1)) end ∙ long₁

  state-other : (j : ℕ) → (j ≡ 3 + p → ⊥) → (j ≡ 259 + (p + 1) → ⊥) → get_or (with_state t p mark end) j 0 ≡ get_or t j 0
  unfolding t₁
  state-other j x y = get_or-set_other t₁ (259 + (p + 1)) j end 0 y ∙ get_or-set_other t (3 + p) j mark 0 x

  state-mark : mark_at (with_state t p mark end) p ≡ mark
  unfolding t₁
  state-mark =
      let inside : 3 + p < length t = omega (arith, long) in
      get_or-set_other t₁ (259 + (p + 1)) (3 + p) end 0 (λ e. omega (arith, e)) ∙ get_or-set_same t (3 + p) mark 0 inside

  pub state-offset : offset_at (with_state t p mark end) (p + 1) ≡ end
  unfolding t₁
  state-offset = let inside : 259 + (p + 1) < length t₁ = omega (arith, long₁) in get_or-set_same t₁ (259 + (p + 1)) end 0 inside

module _ {L : Lts} {p at : ℕ} {t : List ℕ} (f : Filling L p at t) where
  pub filling-room : {vs : List Transition} → vs ≡ transitions_of L p → p < L.states → length (transitions_below L L.states) ≤ 1024 → at + length vs ≤ 1024
  filling-room {vs} e l few =
      let k = up-grows L L.states (p + 1) (omega arith) in
      let q = rw (up_more, length-append) at k in
      omega (arith, q, few, f.place, ap length e)

  pub filling-more : {r x : ℕ} {vs : List Transition} {u : List ℕ} → vs ≡ transitions_of L p → p < 256 → at + length vs ≤ 1024
      → r ≡ at + length vs → Extends vs at t u → x ≡ cond (L.terminating p) 1 0 → Filling L (p + 1) r (with_state u p x r)
  filling-more {r} {x} {vs} {u} is room most e w m =
      let long : length u ≡ 3588 = w.long ∙ f.long in
      let next : r ≡ length (transitions_below L (p + 1)) = rw (up_more, length-append) (omega (arith, e, f.place, ap length is)) in
      record {
        long = state-long u p x r long room;
        place = next;
        list = table_same r (with_state u p x r) u (λ i l. same i (omega (arith, l, e, most)))
            ∙ ap (table_transitions u) e ∙ w.list ∙ rw (f.list, is, up_more);
        mark = λ q l. marks q (omega (arith, l)) (ℕ_discrete q p);
        offset = λ q l. offsets next q (omega (arith, l)) (ℕ_discrete q (p + 1));
      }
    where
      same : (i : ℕ) → i < 1024 → entry_at (with_state u p x r) i ≡ entry_at u i
      same i l =
          let long : length u ≡ 3588 = w.long ∙ f.long in
          λ z. record {
            source = state-other u p x r long room (516 + i) (λ e. omega (arith, e)) (λ e. omega (arith, e)) z;
            action = state-other u p x r long room (1540 + i) (λ e. omega (arith, e)) (λ e. omega (arith, e)) z;
            target = state-other u p x r long room (2564 + i) (λ e. omega (arith, e)) (λ e. omega (arith, e)) z;
          }

      marks : (q : ℕ) → q ≤ p → Dec (q ≡ p) → mark_at (with_state u p x r) q ≡ cond (L.terminating q) 1 0
      marks q l (yes d) = rw d (state-mark u p x r (w.long ∙ f.long) room ∙ m)
      marks q l (no d) =
          state-other u p x r (w.long ∙ f.long) room (3 + q) (λ e. d (omega (arith, e))) (λ e. omega (arith, e))
          ∙ w.head (3 + q) (omega arith) ∙ f.mark q (omega (arith, d))

      offsets : r ≡ length (transitions_below L (p + 1)) → (q : ℕ) → q ≤ p + 1 → Dec (q ≡ p + 1) → offset_at (with_state u p x r) q ≡ length (transitions_below L q)
      offsets next q l (yes d) = rw d (state-offset u p x r (w.long ∙ f.long) room ∙ next)
      offsets next q l (no d) =
          state-other u p x r (w.long ∙ f.long) room (259 + q) (λ e. omega (arith, e)) (λ e. d (omega (arith, e)))
          ∙ w.head (259 + q) (omega arith) ∙ f.offset q (omega (arith, d))
