-- A set along a list, and one along the states that go to one state: what is left to be put into the row's k words. Assumes nothing.
use Prim.Native.Nat.{ℕ, ◌+◌, ◌-◌, ◌*◌, ◌/◌, ◌%◌, ◌^◌, ◌<◌, ◌≤◌}
use mathlib.Core.Path.{◌≡◌, refl, sym, ap, ◌∙◌}
use mathlib.Core.Bool.{Bool, true, false, ◌&&◌, ◌||◌, or_comm}
use mathlib.Core.List.{List, [], ◌∷◌}
use mathlib.Core.Logic.{⊎_elim}
use native.Mathlib.Omega.{arith}
use lib.ListN.{length, replicate}
use lib.Dec.{eqb}
use lib.Bits.{bit_or}
use lib.Pow.{pow_pos}
use borrow.Author.Tests.{eq-eqb, eqb-true}
use Rattle.lts.specs.Bounded.{any_below}
use Rattle.lts.specs.System.{Set}
use Rattle.lts.proofs.Below.{clash, either, neither, regroup, length-list_below}
use Rattle.rows.specs.Rows.{bit, in_row, row_of, Next}
use Rattle.rows.proofs.Bits.{bit-or, bit-pow, one_shl}
use Rattle.rows.proofs.Rows.{in_row-of, in_row-zeros, row_of-cong, row-ext}
use Rattle.encoding.specs.Encoding.{member}
use Rattle.encoding.proofs.Chains.{zeros-at, zeros-long}
use Rattle.transitions.specs.Filling.{Covers}
use Rattle.transitions.proofs.Links.{next-none, next-any}

-- ---- rows that are words of their own members

pub zero_row : (k : ℕ) (S : Set) → ((x : ℕ) → S x ≡ false) → replicate k 0 ≡ row_of k S
zero_row k S e = row-ext k S (replicate k 0) (zeros-long k) (λ j. rw (zeros-at k j) (pow_pos 64)) (λ x u. in_row-zeros k x ∙ sym (e x))

pub own-words : (k : ℕ) (S : Set) {row : List ℕ} → row ≡ row_of k S → row ≡ row_of k (in_row row)
own-words k S e = e ∙ row_of-cong k S _ (λ x u. sym (ap (λ (l : List ℕ). in_row l x) e ∙ in_row-of k S x u))

-- ---- along a list

-- with the members of l the row holds S
pub record Gathering (k : ℕ) (S : Set) (row l : List ℕ) : Type 0 where
  pub words : row ≡ row_of k (in_row row)
  pub rest : (x : ℕ) → x < k * 64 → S x ≡ (member x l || in_row row x)

pub gathering-start : (k : ℕ) (row l : List ℕ) → row ≡ row_of k (in_row row) → Gathering k (λ x. member x l || in_row row x) row l
gathering-start k row l e = record { words = e; rest = λ x u. refl }

module _ {k : ℕ} {S : Set} {row l : List ℕ} (g : Gathering k S row l) where
  pub gathering-long : length row ≡ k
  gathering-long = ap length g.words ∙ length-list_below k _

  pub gathering-more : {row' : List ℕ} (y : ℕ) (m : List ℕ) → l ≡ y ∷ m → row' ≡ row_of (length row) (λ x. eqb x y || in_row row x) → Gathering k S row' m
  unfolding member
  gathering-more {row'} y m e r =
      record {
        words = own-words k _ is;
        rest = λ x u. g.rest x u ∙ ap (λ z. member x z || in_row row x) e ∙ sym (regroup (eqb x y) (member x m) (in_row row x)) ∙ ap (λ b. member x m || b) (sym (at x u));
      }
    where
      is : row' ≡ row_of k (λ x. eqb x y || in_row row x)
      is = r ∙ ap (λ z. row_of z (λ x. eqb x y || in_row row x)) gathering-long

      at : (x : ℕ) → x < k * 64 → in_row row' x ≡ (eqb x y || in_row row x)
      at x u = ap (λ z. in_row z x) is ∙ in_row-of k _ x u

  pub gathering-end : l ≡ [] → row ≡ row_of k S
  unfolding member
  gathering-end e = g.words ∙ row_of-cong k _ _ (λ x u. sym (g.rest x u ∙ ap (λ z. member x z || in_row row x) e))

-- ---- along the members of S

-- the row holds C q for each member q of S below `done`, and p is the next member
pub record Collecting (k : ℕ) (S : Set) (C : ℕ → Set) (row : List ℕ) (p : ℕ) : Type 0 where
  pub done : ℕ
  pub next : Next S 256 done p
  pub sets : row ≡ row_of k (λ x. any_below done (λ q. S q && C q x))

pub collecting-start : (k : ℕ) (S : Set) (C : ℕ → Set) {row : List ℕ} {p : ℕ} → row ≡ row_of k (λ x. false) → Next S 256 0 p → Collecting k S C row p
unfolding any_below
collecting-start k S C e x = record { done = 0; next = x; sets = e }

module _ {k : ℕ} {S : Set} {C : ℕ → Set} {row : List ℕ} {p : ℕ} (g : Collecting k S C row p) where
  pub collecting-words : row ≡ row_of k (in_row row)
  collecting-words = own-words k _ g.sets

  pub collecting-more : {row' : List ℕ} {q : ℕ} → p < 256 → row' ≡ row_of k (λ x. C p x || in_row row x) → Next S 256 (p + 1) q → Collecting k S C row' q
  collecting-more l e x = record {
    done = p + 1;
    next = x;
    sets = e ∙ row_of-cong k _ _ (λ y u. ap (λ (b : Bool). C p y || b) (ap (λ (z : List ℕ). in_row z y) g.sets ∙ in_row-of k _ y u)
        ∙ or_comm (C p y) _ ∙ sym (next-any g.next (λ q. C q y) l));
  }

  pub collecting-done : 256 ≤ p → row ≡ row_of k (λ x. any_below 256 (λ q. S q && C q x))
  collecting-done l =
      let end : p ≡ 256 = let b = g.next.below in omega (arith, l, b) in
      g.sets ∙ row_of-cong k _ _ (λ x u. sym (next-none g.next (λ q. C q x)) ∙ ap (λ (n : ℕ). any_below n (λ q. S q && C q x)) end)

-- ---- the mask of the actions

-- but for the members of l, those of S are by actions of the mask
pub record Masking (S : Set) (used : ℕ) (l : List ℕ) : Type 0 where
  pub rest : (x : ℕ) → (256 ≤ x → bit used (x / 256 - 1) ≡ false) → S x ≡ member x l

pub masking-start : (l : List ℕ) (used : ℕ) → Masking (λ x. member x l) used l
masking-start l used = record { rest = λ x f. refl }

module _ {S : Set} {used : ℕ} {l : List ℕ} (g : Masking S used l) where
  pub masking-more : (a t : ℕ) (m : List ℕ) → 1 ≤ a → a ≤ 64 → t < 256 → l ≡ (256 * a + t) ∷ m → Masking S (bit_or used (1 * 2 ^ (a - 1) % 2 ^ 64)) m
  unfolding member
  masking-more a t m low high small e = record {
    rest = λ x f.
        let each : 256 ≤ x → (bit used (x / 256 - 1) ≡ false) × (bit (1 * 2 ^ (a - 1) % 2 ^ 64) (x / 256 - 1) ≡ false) =
        λ k. neither _ _ (sym (bit-or used (1 * 2 ^ (a - 1) % 2 ^ 64) (x / 256 - 1)) ∙ f k) in
        g.rest x (λ k. (each k).0) ∙ ap (member x) e ∙ ap (λ (b : Bool). b || member x m) (other x (λ k. (each k).1));
  }
    where
      other : (x : ℕ) → (256 ≤ x → bit (1 * 2 ^ (a - 1) % 2 ^ 64) (x / 256 - 1) ≡ false) → eqb x (256 * a + t) ≡ false
      other x f = ⊎_elim (λ (y : eqb x (256 * a + t) ≡ true).
          let is = eqb-true x (256 * a + t) y in
          let place : x / 256 - 1 ≡ a - 1 = omega (arith, is, small) in
          let has = ap (λ (w : ℕ). bit w (x / 256 - 1)) (one_shl (a - 1) (omega (arith, low, high))) ∙ bit-pow (a - 1) (x / 256 - 1) ∙ eq-eqb _ _ place in
          absurd (clash has (f (omega (arith, is, low)))))
          (λ y. y) (either (eqb x (256 * a + t)))

  pub masking-end : l ≡ [] → Covers used S
  unfolding member
  masking-end e = record { none = λ x u f. g.rest x f ∙ ap (member x) e }

pub covers-start : {row : List ℕ} (used : ℕ) → row ≡ row_of 260 (λ x. false) → Covers used (in_row row)
covers-start used e = record { none = λ x u f. ap (λ (l : List ℕ). in_row l x) e ∙ in_row-of 260 _ x u }

pub covers_more : {used r : ℕ} {C : Set} (row : List ℕ) {row' : List ℕ} → Covers used (in_row row) → Covers r C → row' ≡ row_of 260 (λ x. C x || in_row row x)
    → Covers (bit_or used r) (in_row row')
covers_more {used} {r} {C} row g c e = record {
  none = λ x u f.
      let each : 256 ≤ x → (bit used (x / 256 - 1) ≡ false) × (bit r (x / 256 - 1) ≡ false) =
      λ k. neither _ _ (sym (bit-or used r (x / 256 - 1)) ∙ f k) in
      ap (λ (l : List ℕ). in_row l x) e ∙ in_row-of 260 _ x u ∙ ap (λ (b : Bool). b || in_row row x) (c.none x u (λ k. (each k).1))
      ∙ g.none x u (λ k. (each k).0);
}
