-- Laws of sets of four words, and of lists of them. Assumes nothing.
use mathlib.Core.Path.{◌≡◌, refl, sym, ap, ap₂, ◌∙◌, subst⁻¹}
use mathlib.Core.Bool.{Bool, true, false, cond, not, ◌||◌, xor, true≢false}
use mathlib.Core.Logic.{◌⊎◌, inl, inr, ⊎_elim}
use mathlib.Core.List.{List, [], ◌∷◌}
use Prim.Native.Nat.{ℕ, zero, suc, ◌+◌, ◌*◌, ◌/◌, ◌%◌, ◌^◌, ◌≤◌, ◌<◌}
use native.Mathlib.Nat.{not-suc-le-zero, le_of_suc-le-suc, mod-lt}
use native.Mathlib.Omega.{arith}
use lib.Dec.{eqb}
use lib.Bits.{bit_or, or_lt}
use lib.ListN.{length, get_or, set, length-set}
use lib.Seq.{get_or-set_same, get_or-set_other}
use borrow.Author.Tests.{eq-eqb, ne_eqb, eqb-true}
use Rattle.lts.specs.Bounded.{any_below}
use Rattle.lts.specs.System.{Set, Rel}
use Rattle.lts.proofs.Below.{bool_iff, any-yes, any_some, list_ext, length-list_below, clash, either}
use Rattle.rows.specs.Rows.{bit, in_row, word_at, row_of}
use Rattle.rows.proofs.Bits.{bit-or, bit-of-zero, word-ext, word-zero}
use Rattle.rows.proofs.Rows.{eq-or-not, Bitwise, in_row-at, in_row-of, word-at, row_of-cong, row-ext, zip-joined}
use Rattle.sets.specs.Sets.{set_at, sets_of}

-- ---- four words

pub four : (S : Set) {x y z w : ℕ} → x ≡ word_at S 0 → y ≡ word_at S 1 → z ≡ word_at S 2 → w ≡ word_at S 3 → x ∷ y ∷ z ∷ w ∷ [] ≡ row_of 4 S
four S {x} {y} {z} {w} e f g h = list_ext 4 (word_at S) (x ∷ y ∷ z ∷ w ∷ []) refl at
  where
    at : (i : ℕ) → i < 4 → get_or (x ∷ y ∷ z ∷ w ∷ []) i 0 ≡ word_at S i
    at zero l = e
    at (suc zero) l = f
    at (suc (suc zero)) l = g
    at (suc (suc (suc zero))) l = h
    at (suc (suc (suc (suc i)))) l = absurd (not-suc-le-zero (le_of_suc-le-suc (le_of_suc-le-suc (le_of_suc-le-suc (le_of_suc-le-suc l)))))

-- the words of two sets, joined by an operation that goes bit by bit
pub zip-four : (op : ℕ → ℕ → ℕ) (β : Bool → Bool → Bool) → Bitwise op β → (a b : List ℕ) → ((j : ℕ) → get_or a j 0 < 2 ^ 64) → ((j : ℕ) → get_or b j 0 < 2 ^ 64)
    → op (get_or a 0 0) (get_or b 0 0) ∷ op (get_or a 1 0) (get_or b 1 0) ∷ op (get_or a 2 0) (get_or b 2 0) ∷ op (get_or a 3 0) (get_or b 3 0) ∷ []
    ≡ row_of 4 (λ q. β (in_row a q) (in_row b q))
zip-four op β ok a b ha hb = four _ (word 0) (word 1) (word 2) (word 3)
  where
    word : (c : ℕ) → op (get_or a c 0) (get_or b c 0) ≡ word_at (λ q. β (in_row a q) (in_row b q)) c
    word c = word-at _ c (ok.small _ _ (ha c) (hb c)) (zip-joined op β ok a b c (ha c) (hb c))

-- the members of a set
pub set-in : (S : Set) {a : List ℕ} → a ≡ row_of 4 S → (q : ℕ) → q < 256 → in_row a q ≡ S q
set-in S e q h = ap (λ (l : List ℕ). in_row l q) e ∙ in_row-of 4 S q h

pub set_long : (S : Set) {a : List ℕ} → a ≡ row_of 4 S → length a ≡ 4
set_long S e = ap length e ∙ length-list_below 4 (word_at S)

-- a set with no member
pub any-off : (k : ℕ) (S : Set) → any_below k S ≡ false → (q : ℕ) → q < k → S q ≡ false
any-off k S e q h = ⊎_elim (λ (t : S q ≡ true). absurd (clash (sym (any-yes k S q h t)) e)) (λ (f : S q ≡ false). f) (either (S q))

-- two sets that do not differ
pub same-sets : (A B : Set) → any_below 256 (λ q. xor (A q) (B q)) ≡ false → (q : ℕ) → q < 256 → A q ≡ B q
unfolding xor
same-sets A B e q h = go (A q) (B q) (any-off 256 (λ q. xor (A q) (B q)) e q h)
  where
    go : (a b : Bool) → xor a b ≡ false → a ≡ b
    go true true r = refl
    go false false r = refl
    go true false r = absurd (true≢false r)
    go false true r = absurd (true≢false r)

-- a set has a state exactly if its words, joined, are not 0
or_some : (a b c d : Bool) → (a || b) || (c || d) ≡ true → (a ≡ true) ⊎ (b ≡ true) ⊎ (c ≡ true) ⊎ (d ≡ true)
or_some true b c d e = inl refl
or_some false true c d e = inr (inl refl)
or_some false false true d e = inr (inr (inl refl))
or_some false false false true e = inr (inr (inr refl))
or_some false false false false e = absurd (true≢false (sym e))

module _ (a : List ℕ) (words : (j : ℕ) → get_or a j 0 < 2 ^ 64) where
  abbrev joined : ℕ
  joined = bit_or (bit_or (get_or a 0 0) (get_or a 1 0)) (bit_or (get_or a 2 0) (get_or a 3 0))

  bits : (i : ℕ) → bit joined i ≡ (bit (get_or a 0 0) i || bit (get_or a 1 0) i) || (bit (get_or a 2 0) i || bit (get_or a 3 0) i)
  bits i = bit-or _ _ i ∙ ap₂ ◌||◌ (bit-or (get_or a 0 0) (get_or a 1 0) i) (bit-or (get_or a 2 0) (get_or a 3 0) i)

  small : joined < 2 ^ 64
  small = or_lt 64 _ _ (or_lt 64 _ _ (words 0) (words 1)) (or_lt 64 _ _ (words 2) (words 3))

  some : joined ≡ 0 → (q : ℕ) → q < 256 → in_row a q ≡ false
  unfolding in_row
  some e q h = pick (q / 64) (omega arith)
    where
      each : (x y z w : Bool) → (x || y) || (z || w) ≡ false → (x ≡ false) × (y ≡ false) × (z ≡ false) × (w ≡ false)
      each false false false false e = (refl, refl, refl, refl)
      each true y z w e = absurd (true≢false e)
      each false true z w e = absurd (true≢false e)
      each false false true w e = absurd (true≢false e)
      each false false false true e = absurd (true≢false e)

      off : (bit (get_or a 0 0) (q % 64) ≡ false) × (bit (get_or a 1 0) (q % 64) ≡ false) × (bit (get_or a 2 0) (q % 64) ≡ false) × (bit (get_or a 3 0) (q % 64) ≡ false)
      off = each (bit (get_or a 0 0) (q % 64)) (bit (get_or a 1 0) (q % 64)) (bit (get_or a 2 0) (q % 64)) (bit (get_or a 3 0) (q % 64))
          (sym (bits (q % 64)) ∙ ap (λ (x : ℕ). bit x (q % 64)) e ∙ bit-of-zero (q % 64))

      pick : (c : ℕ) → c < 4 → bit (get_or a c 0) (q % 64) ≡ false
      pick zero l = off.0
      pick (suc zero) l = off.1
      pick (suc (suc zero)) l = off.2
      pick (suc (suc (suc zero))) l = off.3
      pick (suc (suc (suc (suc c)))) l = absurd (not-suc-le-zero (le_of_suc-le-suc (le_of_suc-le-suc (le_of_suc-le-suc (le_of_suc-le-suc l)))))

  pub any-joined : not (eqb joined 0) ≡ any_below 256 (in_row a)
  any-joined = bool_iff to from
    where
      at : (c i : ℕ) → c < 4 → i < 64 → bit (get_or a c 0) i ≡ true → any_below 256 (in_row a) ≡ true
      at c i l h e = sym (any-yes 256 (in_row a) (c * 64 + i) (omega arith) (in_row-at a c i h ∙ e))

      zero-none : any_below 64 (bit joined) ≡ false → joined ≡ 0
      zero-none e = word-ext 64 (λ i. false) small (any-off 64 (bit joined) e) ∙ word-zero 64

      to : not (eqb joined 0) ≡ true → any_below 256 (in_row a) ≡ true
      to e = go (any_below 64 (bit joined)) refl
        where
          go : (b : Bool) → any_below 64 (bit joined) ≡ b → any_below 256 (in_row a) ≡ true
          go false r = absurd (true≢false (sym e ∙ ap not (eq-eqb joined 0 (zero-none r))))
          go true r =
              let s = any_some 64 (bit joined) r in
              ⊎_elim (at 0 s.0 (omega arith) s.1) (λ u. ⊎_elim (at 1 s.0 (omega arith) s.1) (λ v. ⊎_elim (at 2 s.0 (omega arith) s.1) (at 3 s.0 (omega arith) s.1) v) u)
              (or_some _ _ _ _ (sym (bits s.0) ∙ s.2))

      from : any_below 256 (in_row a) ≡ true → not (eqb joined 0) ≡ true
      from e =
          let s = any_some 256 (in_row a) e in
          ap not (ne_eqb joined 0 (λ z. clash s.2 (some z s.0 s.1)))

-- ---- lists of sets

flat : (x : ℕ) → 256 * (x / 256) + x % 256 ≡ x
flat x = omega arith

row-of : (p q : ℕ) → q < 256 → (256 * p + q) / 256 ≡ p
row-of p q h = omega arith

place_of : (p q : ℕ) → q < 256 → (256 * p + q) % 256 ≡ q
place_of p q h = omega arith

pub sets-in : (k : ℕ) (R : Rel) {g : List ℕ} → g ≡ sets_of k R → (p q : ℕ) → p < k → q < 256 → set_at g p q ≡ R p q
unfolding sets_of
sets-in k R e p q h l =
    ap (λ (l : List ℕ). in_row l (256 * p + q)) e ∙ in_row-of (k * 4) (λ x. R (x / 256) (x % 256)) (256 * p + q) (omega arith)
    ∙ ap₂ R (row-of p q l) (place_of p q l)

pub sets-cong : (k : ℕ) (A B : Rel) → ((p q : ℕ) → p < k → q < 256 → A p q ≡ B p q) → sets_of k A ≡ sets_of k B
unfolding sets_of
sets-cong k A B e = row_of-cong (k * 4) _ _ (λ x h. e (x / 256) (x % 256) (omega arith) (mod-lt x (omega arith)))

pub sets-long : (k : ℕ) (R : Rel) {g : List ℕ} → g ≡ sets_of k R → length g ≡ k * 4
unfolding sets_of
sets-long k R e = ap length e ∙ length-list_below (k * 4) (word_at (λ x. R (x / 256) (x % 256)))

-- the members of a list of sets, whatever their places
flat_in : (g : List ℕ) (x : ℕ) → set_at g (x / 256) (x % 256) ≡ in_row g x
flat_in g x = ap (in_row g) (flat x)

pub sets-ext : (k : ℕ) (g : List ℕ) → length g ≡ k * 4 → ((j : ℕ) → get_or g j 0 < 2 ^ 64) → g ≡ sets_of k (set_at g)
unfolding sets_of
sets-ext k g long words = row-ext (k * 4) _ g long words (λ x h. sym (flat_in g x))

-- no set has a member
pub sets-none : (k : ℕ) (g : List ℕ) → length g ≡ k * 4 → ((j : ℕ) → get_or g j 0 ≡ 0) → g ≡ sets_of k (λ p q. false)
unfolding sets_of in_row
sets-none k g long zeros =
    row-ext (k * 4) _ g long (λ j. subst⁻¹ (λ (x : ℕ). x < 2 ^ 64) (zeros j) (omega arith)) (λ x h. ap (λ (w : ℕ). bit w (x % 64)) (zeros (x / 64)) ∙ bit-of-zero (x % 64))

pub put-sets : (k p : ℕ) (S : Set) (g : List ℕ) {g' : List ℕ} → length g ≡ k * 4 → g' ≡ row_of (length g) (λ x. cond (eqb (x / 256) p) (S (x % 256)) (in_row g x))
    → g' ≡ sets_of k (λ t q. cond (eqb t p) (S q) (set_at g t q))
unfolding sets_of
put-sets k p S g long e =
    e ∙ ap (λ (n : ℕ). row_of n (λ x. cond (eqb (x / 256) p) (S (x % 256)) (in_row g x))) long
    ∙ row_of-cong (k * 4) _ _ (λ x h. ap (λ (b : Bool). cond (eqb (x / 256) p) (S (x % 256)) b) (sym (flat_in g x)))

-- ---- one set, read and written

pub at-four : (g : List ℕ) (p : ℕ) → ((j : ℕ) → get_or g j 0 < 2 ^ 64)
    → get_or g (4 * p) 0 ∷ get_or g (4 * p + 1) 0 ∷ get_or g (4 * p + 2) 0 ∷ get_or g (4 * p + 3) 0 ∷ [] ≡ row_of 4 (set_at g p)
at-four g p words = four _ (word 0 (4 * p) (omega arith)) (word 1 (4 * p + 1) (omega arith)) (word 2 (4 * p + 2) (omega arith)) (word 3 (4 * p + 3) (omega arith))
  where
    word : (c j : ℕ) → j ≡ 4 * p + c → get_or g j 0 ≡ word_at (set_at g p) c
    word c j e = word-at (set_at g p) c (words j) (λ i h.
        let same : 256 * p + (c * 64 + i) ≡ j * 64 + i = omega (arith, e) in
        sym (ap (in_row g) same ∙ in_row-at g j i h))

set-at : (l : List ℕ) (i v j : ℕ) → i < length l → get_or (set l i v) j 0 ≡ cond (eqb j i) v (get_or l j 0)
set-at l i v j h =
    ⊎_elim
    (λ (e : eqb j i ≡ true). let same = eqb-true j i e in ap (λ (k : ℕ). get_or (set l i v) k 0) same ∙ get_or-set_same l i v 0 h ∙ sym (ap (λ (b : Bool). cond b v (get_or l j 0)) e))
    (λ (e : eqb j i ≡ false). get_or-set_other l i j v 0 (λ same. true≢false (sym (eq-eqb j i same) ∙ e)) ∙ sym (ap (λ (b : Bool). cond b v (get_or l j 0)) e))
    (either (eqb j i))

-- set p is written word by word
module _ (g a : List ℕ) (p : ℕ) (room : p * 4 + 4 ≤ length g) (words : (j : ℕ) → get_or g j 0 < 2 ^ 64) (own : (j : ℕ) → get_or a j 0 < 2 ^ 64) where
  abbrev one : List ℕ
  one = set g (4 * p) (get_or a 0 0)

  abbrev two : List ℕ
  two = set one (4 * p + 1) (get_or a 1 0)

  abbrev three : List ℕ
  three = set two (4 * p + 2) (get_or a 2 0)

  abbrev all : List ℕ
  all = set three (4 * p + 3) (get_or a 3 0)

  long-one : length one ≡ length g
  long-one = length-set g (4 * p) (get_or a 0 0)

  long-two : length two ≡ length g
  long-two = length-set one (4 * p + 1) (get_or a 1 0) ∙ long-one

  long-three : length three ≡ length g
  long-three = length-set two (4 * p + 2) (get_or a 2 0) ∙ long-two

  long-all : length all ≡ length g
  long-all = length-set three (4 * p + 3) (get_or a 3 0) ∙ long-three

  word : (j : ℕ) → get_or all j 0 ≡ cond (eqb j (4 * p + 3)) (get_or a 3 0) (cond (eqb j (4 * p + 2)) (get_or a 2 0)
      (cond (eqb j (4 * p + 1)) (get_or a 1 0) (cond (eqb j (4 * p)) (get_or a 0 0) (get_or g j 0))))
  word j =
      set-at three (4 * p + 3) (get_or a 3 0) j (omega (arith, room, long-three))
      ∙ ap (λ (x : ℕ). cond (eqb j (4 * p + 3)) (get_or a 3 0) x) (set-at two (4 * p + 2) (get_or a 2 0) j (omega (arith, room, long-two))
      ∙ ap (λ (x : ℕ). cond (eqb j (4 * p + 2)) (get_or a 2 0) x) (set-at one (4 * p + 1) (get_or a 1 0) j (omega (arith, room, long-one))
      ∙ ap (λ (x : ℕ). cond (eqb j (4 * p + 1)) (get_or a 1 0) x) (set-at g (4 * p) (get_or a 0 0) j (omega (arith, room)))))

  abbrev chain : ℕ → ℕ
  chain j = cond (eqb j (4 * p + 3)) (get_or a 3 0) (cond (eqb j (4 * p + 2)) (get_or a 2 0) (cond (eqb j (4 * p + 1)) (get_or a 1 0) (cond (eqb j (4 * p)) (get_or a 0 0) (get_or g j 0))))

  -- word j is word j mod 4 of the set, or stays
  inside : (j : ℕ) → j / 4 ≡ p → chain j ≡ get_or a (j % 4) 0
  inside j e = pick (j % 4) (mod-lt j (omega arith)) refl
    where
      off : (i : ℕ) → (j ≡ i → ⊥) → eqb j i ≡ false
      off i ne = ne_eqb j i ne

      on : (i : ℕ) → j ≡ i → eqb j i ≡ true
      on i same = eq-eqb j i same

      pick : (c : ℕ) → c < 4 → j % 4 ≡ c → chain j ≡ get_or a c 0
      pick zero l m = rw (off (4 * p + 3) (λ z. omega (arith, z, e, m)), off (4 * p + 2) (λ z. omega (arith, z, e, m)), off (4 * p + 1) (λ z. omega (arith, z, e, m)), on (4 * p) (omega (arith, e, m)))
      pick (suc zero) l m = rw (off (4 * p + 3) (λ z. omega (arith, z, e, m)), off (4 * p + 2) (λ z. omega (arith, z, e, m)), on (4 * p + 1) (omega (arith, e, m)))
      pick (suc (suc zero)) l m = rw (off (4 * p + 3) (λ z. omega (arith, z, e, m)), on (4 * p + 2) (omega (arith, e, m)))
      pick (suc (suc (suc zero))) l m = rw (on (4 * p + 3) (omega (arith, e, m)))
      pick (suc (suc (suc (suc c)))) l m = absurd (not-suc-le-zero (le_of_suc-le-suc (le_of_suc-le-suc (le_of_suc-le-suc (le_of_suc-le-suc l)))))

  outside : (j : ℕ) → (j / 4 ≡ p → ⊥) → chain j ≡ get_or g j 0
  outside j ne = rw (ne_eqb j (4 * p + 3) (λ z. ne (omega (arith, z))), ne_eqb j (4 * p + 2) (λ z. ne (omega (arith, z))), ne_eqb j (4 * p + 1) (λ z. ne (omega (arith, z))), ne_eqb j (4 * p) (λ z. ne (omega (arith, z))))

  abbrev S : Set
  S x = cond (eqb (x / 256) p) (in_row a (x % 256)) (in_row g x)

  pub put_four : all ≡ row_of (length g) (λ x. cond (eqb (x / 256) p) (in_row a (x % 256)) (in_row g x))
  put_four = list_ext (length g) (word_at S) all long-all (λ j l. word j ∙ at j)
    where
      row : (j i : ℕ) → i < 64 → (j * 64 + i) / 256 ≡ j / 4
      row j i h = omega (arith, h)

      column : (j i : ℕ) → i < 64 → (j * 64 + i) % 256 ≡ j % 4 * 64 + i
      column j i h = omega (arith, h)

      at : (j : ℕ) → chain j ≡ word_at S j
      at j = ⊎_elim
          (λ (e : j / 4 ≡ p). inside j e ∙ word-at S j (own (j % 4)) (λ i h.
          sym (in_row-at a (j % 4) i h) ∙ sym (ap₂ (λ (b : Bool) (x : ℕ). cond b (in_row a x) (in_row g (j * 64 + i))) (eq-eqb _ p (row j i h ∙ e)) (column j i h))))
          (λ (ne : j / 4 ≡ p → ⊥). outside j ne ∙ word-at S j (words j) (λ i h.
          sym (in_row-at g j i h) ∙ sym (ap (λ (b : Bool). cond b (in_row a ((j * 64 + i) % 256)) (in_row g (j * 64 + i))) (ne_eqb _ p (λ z. ne (sym (row j i h) ∙ z))))))
          (eq-or-not (j / 4) p)
