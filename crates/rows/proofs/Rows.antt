-- Laws of lists given by a function, and of rows of words. Assumes nothing.
use mathlib.Core.Path.{◌≡◌, refl, sym, ap, ap₂, ◌∙◌, subst⁻¹}
use mathlib.Core.Bool.{Bool, true, false, not, ◌&&◌, ◌||◌, xor, and-true, and-false, or-false, or_comm}
use mathlib.Core.Logic.{◌⊎◌, inl, inr, ⊎_elim}
use mathlib.Core.List.{List, ◌++◌, append-nil}
use Prim.Native.Nat.{ℕ, zero, suc, ◌+◌, ◌-◌, ◌*◌, ◌/◌, ◌%◌, ◌^◌, ◌≤◌, ◌<◌}
use native.Mathlib.Nat.{div-add-mod', mod-lt, eq-or-lt_of_le}
use native.Mathlib.Omega.{arith}
use lib.Bits.{bit_and, bit_or, bit_xor, and_lt, or_lt, xor_lt, and_le_l}
use lib.Arith.{digits_div, digits_mod}
use lib.ListN.{length, replicate, length-replicate, get_or-append, get_or, set, take, drop, length-set, length-append, length-drop, drop_of_length-le}
use lib.Seq.{length-take-le, get_or-take, get_or-drop, get_or-append-add, get_or-set_same, get_or-set_other, take_all}
use lib.Dec.{eqb, ltb}
use lib.Pow.{pow_pos}
use borrow.Rule.Slice.PartMut.{put_mid}
use borrow.Author.Tests.{lt-ltb, le-ltb, eq-eqb, ne_eqb, eqb-true, ltb-true}
use Rattle.lts.specs.Bounded.{any_below, passing}
use Rattle.lts.specs.System.{Set}
use Rattle.lts.proofs.Count.{passing-shorter}
use Rattle.rows.specs.Rows.{bit, in_row, word_at, row_of, states_below, Next}
use Rattle.rows.proofs.Bits.{bit-of-zero, word-ext, word_of-lt, bit-word_of, bit-and, bit-or, bit-xor, bit_not, bit-pow, one_shl}
use Rattle.lts.proofs.Below.{any-yes, any-no, any-more, any_some, bool_iff, and-fst, and-snd, list_below-cong, get_or-list_below, length-list_below, fill_more, get_or-fill, list_ext, lt-or-ge}

-- ---- a row of words

pub in_row-at : (row : List ℕ) (c i : ℕ) → i < 64 → in_row row (c * 64 + i) ≡ bit (get_or row c 0) i
unfolding in_row
in_row-at row c i h = rw (digits_div c h, digits_mod c h)

-- a word whose bits are those of S at c is word c of S
pub word-at : (S : ℕ → Bool) (c : ℕ) {x : ℕ} → x < 2 ^ 64 → ((i : ℕ) → i < 64 → bit x i ≡ S (c * 64 + i)) → x ≡ word_at S c
unfolding word_at
word-at S c h e = word-ext 64 (λ i. S (c * 64 + i)) h e

pub bit-word_at : (S : ℕ → Bool) (c i : ℕ) → i < 64 → bit (word_at S c) i ≡ S (c * 64 + i)
unfolding word_at
bit-word_at S c i h = bit-word_of 64 (λ i. S (c * 64 + i)) i h

pub word_at-lt : (S : ℕ → Bool) (c : ℕ) → word_at S c < 2 ^ 64
unfolding word_at
word_at-lt S c = word_of-lt 64 (λ i. S (c * 64 + i))

-- the members of the words of a set, and of a row with its first words written
pub in_row-of : (k : ℕ) (S : ℕ → Bool) (q : ℕ) → q < k * 64 → in_row (row_of k S) q ≡ S q
unfolding in_row
in_row-of k S q h =
    ap (λ (x : ℕ). bit x (q % 64)) (get_or-list_below 0 k (word_at S) (q / 64) (omega arith)) ∙ bit-word_at S (q / 64) (q % 64) (mod-lt q (omega arith)) ∙ ap S (div-add-mod' q 64)

pub in_row-written : (k : ℕ) (S : ℕ → Bool) (rest : List ℕ) (q : ℕ) → q < k * 64 → in_row (row_of k S ++ rest) q ≡ S q
unfolding in_row
in_row-written k S rest q h =
    ap (λ (x : ℕ). bit x (q % 64)) (get_or-append (row_of k S) rest 0 (q / 64) (omega (arith, length-list_below k (word_at S)))) ∙ in_row-of k S q h

-- such a row is as long as it was
pub length-written : (k : ℕ) (S : ℕ → Bool) (d : List ℕ) → k ≤ length d → length (row_of k S ++ drop k d) ≡ length d
length-written k S d l = simp (length-append, length-list_below, length-drop) (omega arith)

-- words of zeros
pub get_or-zeros : (k j : ℕ) → get_or (replicate {A = ℕ} k 0) j 0 ≡ 0
get_or-zeros zero j = refl
get_or-zeros (suc k) zero = refl
get_or-zeros (suc k) (suc j) = get_or-zeros k j

-- the first k of them
pub prefix-long : (k n : ℕ) → k ≤ n → length (take k (replicate {A = ℕ} n 0)) ≡ k
prefix-long k n l = length-take-le k (replicate {A = ℕ} n 0) (subst⁻¹ (λ (x : ℕ). k ≤ x) (length-replicate n zero) l)

pub in_row-zeros : (k q : ℕ) → in_row (replicate k 0) q ≡ false
unfolding in_row
in_row-zeros k q = ap (λ (x : ℕ). bit x (q % 64)) (get_or-zeros k (q / 64)) ∙ bit-of-zero (q % 64)

-- words of the same members are the same
pub row_of-cong : (k : ℕ) (A B : ℕ → Bool) → ((q : ℕ) → q < k * 64 → A q ≡ B q) → row_of k A ≡ row_of k B
row_of-cong k A B e = list_below-cong k _ _ (λ c h. word-at B c (word_at-lt A c) (λ i l. bit-word_at A c i l ∙ e (c * 64 + i) (omega arith)))

pub row-ext : (k : ℕ) (S : ℕ → Bool) (row : List ℕ) → length row ≡ k → ((j : ℕ) → get_or row j 0 < 2 ^ 64) → ((q : ℕ) → q < k * 64 → in_row row q ≡ S q) → row ≡ row_of k S
row-ext k S row long words same =
    list_ext k (word_at S) row long (λ c h. word-at S c (words c) (λ i l. sym (in_row-at row c i l) ∙ same (c * 64 + i) (omega arith)))

-- the first k words of a row are its states below 64 * k
pub row-front : (k : ℕ) (row : List ℕ) → k ≤ length row → ((j : ℕ) → get_or row j 0 < 2 ^ 64) → take k row ≡ row_of k (in_row row)
row-front k row h words =
    list_ext k (word_at (in_row row)) (take k row) (length-take-le k row h) (λ c l.
    get_or-take k row c 0 l ∙ word-at (in_row row) c (words c) (λ i b. sym (in_row-at row c i b)))

-- ---- a loop that fills a row word by word: after c turns the row is `row_of c S ++ drop c d`

module _ (S : ℕ → Bool) (d row : List ℕ) (c : ℕ) (now : row ≡ row_of c S ++ drop c d) where
  pub row-unread : get_or row c 0 ≡ get_or d c 0
  row-unread = ap (λ (l : List ℕ). get_or l c 0) now ∙ get_or-fill c (word_at S) d

  pub row-store : {x : ℕ} → c < length d → x ≡ word_at S c → set row c x ≡ row_of (c + 1) S ++ drop (c + 1) d
  row-store {x} l e = ap (λ (l : List ℕ). set l c x) now ∙ fill_more c (word_at S) d l e

  pub row_more : {x : ℕ} → c < length d → x < 2 ^ 64 → ((i : ℕ) → i < 64 → bit x i ≡ S (c * 64 + i)) → set row c x ≡ row_of (c + 1) S ++ drop (c + 1) d
  row_more l h e = row-store l (word-at S c h e)

  pub row_done : {k : ℕ} → c ≡ k → row ≡ row_of k S ++ drop k d
  row_done e = now ∙ ap (λ (m : ℕ). row_of m S ++ drop m d) e

-- a row that has no state in its first c words, nor in the t lowest bits of word c
pub row_before : (row : List ℕ) (c t : ℕ) → t ≤ 64 → ((q : ℕ) → q < c * 64 → in_row row q ≡ false) → ((i : ℕ) → i < t → bit (get_or row c 0) i ≡ false)
    → (q : ℕ) → q < c * 64 + t → in_row row q ≡ false
row_before row c t small below here q h =
    ⊎_elim (λ (l : q < c * 64). below q l)
    (λ (l : c * 64 ≤ q).
    let split : q ≡ c * 64 + (q - c * 64) = omega arith in
    ap (in_row row) split ∙ in_row-at row c (q - c * 64) (omega arith) ∙ here (q - c * 64) (omega arith))
    (lt-or-ge q (c * 64))

-- ---- an operation on words that goes bit by bit, and what it makes of two rows

pub record Bitwise (op : ℕ → ℕ → ℕ) (β : Bool → Bool → Bool) : Type 0 where
  pub small : (x y : ℕ) → x < 2 ^ 64 → y < 2 ^ 64 → op x y < 2 ^ 64
  pub bits : (x y i : ℕ) → x < 2 ^ 64 → y < 2 ^ 64 → i < 64 → bit (op x y) i ≡ β (bit x i) (bit y i)

pub and-bitwise : Bitwise bit_and ◌&&◌
and-bitwise = record { small = λ x y hx hy. and_lt 64 x y hx hy; bits = λ x y i hx hy l. bit-and x y i }

pub or-bitwise : Bitwise bit_or ◌||◌
or-bitwise = record { small = λ x y hx hy. or_lt 64 x y hx hy; bits = λ x y i hx hy l. bit-or x y i }

pub xor-bitwise : Bitwise bit_xor xor
xor-bitwise = record { small = λ x y hx hy. xor_lt 64 x y hx hy; bits = λ x y i hx hy l. bit-xor x y i }

pub minus-bitwise : Bitwise (λ x y. bit_and x ((2 ^ 64 - 1) - y)) (λ a b. a && not b)
minus-bitwise = record {
  small = λ x y hx hy. omega (arith, and_le_l x ((2 ^ 64 - 1) - y));
  bits = λ x y i hx hy l. bit-and x ((2 ^ 64 - 1) - y) i ∙ ap (λ (b : Bool). bit x i && b) (bit_not 64 y i l hy);
}

-- a turn whose word y has the bits of the set M
pub zip_word : (op : ℕ → ℕ → ℕ) (β : Bool → Bool → Bool) → Bitwise op β → (M : ℕ → Bool) (d row : List ℕ) (c : ℕ) {y : ℕ}
    → row ≡ row_of c (λ q. β (in_row d q) (M q)) ++ drop c d → c < length d → get_or row c 0 < 2 ^ 64 → y < 2 ^ 64 → ((i : ℕ) → i < 64 → bit y i ≡ M (c * 64 + i))
    → set row c (op (get_or row c 0) y) ≡ row_of (c + 1) (λ q. β (in_row d q) (M q)) ++ drop (c + 1) d
zip_word op β ok M d row c now l hr hy bits =
    row_more _ d row c now l (ok.small _ _ hr hy) (λ i h.
    ok.bits _ _ i hr hy h ∙ ap₂ β (ap (λ (x : ℕ). bit x i) (row-unread _ d row c now) ∙ sym (in_row-at d c i h)) (bits i h))

pub zip_more : (op : ℕ → ℕ → ℕ) (β : Bool → Bool → Bool) → Bitwise op β → (d mask row : List ℕ) (c : ℕ)
    → row ≡ row_of c (λ q. β (in_row d q) (in_row mask q)) ++ drop c d → c < length d → get_or row c 0 < 2 ^ 64 → get_or mask c 0 < 2 ^ 64
    → set row c (op (get_or row c 0) (get_or mask c 0)) ≡ row_of (c + 1) (λ q. β (in_row d q) (in_row mask q)) ++ drop (c + 1) d
zip_more op β ok d mask row c now l hr hm = zip_word op β ok (in_row mask) d row c now l hr hm (λ i h. sym (in_row-at mask c i h))

-- the words of two rows, joined
pub zip-joined : (op : ℕ → ℕ → ℕ) (β : Bool → Bool → Bool) → Bitwise op β → (a b : List ℕ) (c : ℕ) → get_or a c 0 < 2 ^ 64 → get_or b c 0 < 2 ^ 64
    → (i : ℕ) → i < 64 → bit (op (get_or a c 0) (get_or b c 0)) i ≡ β (in_row a (c * 64 + i)) (in_row b (c * 64 + i))
zip-joined op β ok a b c ha hb i l = ok.bits _ _ i ha hb l ∙ sym (ap₂ β (in_row-at a c i l) (in_row-at b c i l))

-- ---- a row of which word q / 64 is written anew: S is the row's set but at q

pub eq-or-not : (a b : ℕ) → (a ≡ b) ⊎ (a ≡ b → ⊥)
eq-or-not a b = ⊎_elim (λ (l : a < b). inr (λ e. omega arith))
    (λ (l : b ≤ a). ⊎_elim (λ e. inl (sym e)) (λ (m : b < a). inr (λ e. omega arith)) (eq-or-lt_of_le l)) (lt-or-ge a b)

pub row-change : (row : List ℕ) (q v : ℕ) (S : ℕ → Bool) → q / 64 < length row → ((j : ℕ) → get_or row j 0 < 2 ^ 64)
    → ((x : ℕ) → (x ≡ q → ⊥) → S x ≡ in_row row x) → v < 2 ^ 64 → ((i : ℕ) → i < 64 → bit v i ≡ S (q / 64 * 64 + i))
    → set row (q / 64) v ≡ row_of (length row) S
row-change row q v S h words others small bits =
    list_ext (length row) (word_at S) (set row (q / 64) v) (length-set row (q / 64) v) (λ j l.
    ⊎_elim (λ (e : j ≡ q / 64). ap (λ (k : ℕ). get_or (set row (q / 64) v) k 0) e ∙ get_or-set_same row (q / 64) v 0 h ∙ word-at S (q / 64) small bits ∙ ap (word_at S) (sym e))
    (λ (ne : j ≡ q / 64 → ⊥). get_or-set_other row (q / 64) j v 0 ne ∙ word-at S j (words j) (λ i k.
    sym (in_row-at row j i k) ∙ sym (others (j * 64 + i) (λ e. ne (omega arith))))) (eq-or-not j (q / 64)))

-- ---- one state more in a row, or one less: `row[q / 64] | 1 << q % 64`, `row[q / 64] & !(1 << q % 64)`

module _ (row : List ℕ) (q : ℕ) (h : q / 64 < length row) (words : (j : ℕ) → get_or row j 0 < 2 ^ 64) where
  abbrev word : ℕ
  word = get_or row (q / 64) 0

  abbrev one : ℕ
  one = 1 * 2 ^ (q % 64) % 2 ^ 64

  one-small : one < 2 ^ 64
  one-small = mod-lt (1 * 2 ^ (q % 64)) (pow_pos 64)

  bit-one : (i : ℕ) → i < 64 → bit one i ≡ eqb (q / 64 * 64 + i) q
  bit-one i l =
      ap (λ (x : ℕ). bit x i) (one_shl (q % 64) (mod-lt q (omega arith))) ∙ bit-pow (q % 64) i
      ∙ ⊎_elim (λ (e : i ≡ q % 64). eq-eqb i (q % 64) e ∙ sym (eq-eqb (q / 64 * 64 + i) q (omega arith)))
      (λ ne. ne_eqb i (q % 64) ne ∙ sym (ne_eqb (q / 64 * 64 + i) q (λ e. ne (omega arith)))) (eq-or-not i (q % 64))

  pub row-insert : set row (q / 64) (bit_or word one) ≡ row_of (length row) (λ x. eqb x q || in_row row x)
  row-insert = row-change row q (bit_or word one) _ h words (λ x ne. ap (λ (b : Bool). b || in_row row x) (ne_eqb x q ne)) (or_lt 64 _ _ (words (q / 64)) one-small) (λ i l.
      bit-or word one i ∙ ap₂ ◌||◌ (sym (in_row-at row (q / 64) i l)) (bit-one i l) ∙ or_comm (in_row row (q / 64 * 64 + i)) (eqb (q / 64 * 64 + i) q))

-- ---- a set that is gathered turn by turn: after j turns the row has what it had, and each q with H q i for an i below j

module _ (d : List ℕ) (H : ℕ → ℕ → Bool) where
  abbrev pub gathered : ℕ → List ℕ
  gathered j = row_of (length d) (λ q. in_row d q || any_below j (H q))

  pub gather_none : ((j : ℕ) → get_or d j 0 < 2 ^ 64) → d ≡ gathered 0
  unfolding any_below
  gather_none words = row-ext (length d) _ d refl words (λ q h. sym (or-false (in_row d q)))

  -- turn j puts s in, and no other state
  pub gather-in : (j s : ℕ) {row : List ℕ} → row ≡ gathered j → ((q : ℕ) → H q j ≡ eqb q s) → row_of (length row) (λ x. eqb x s || in_row row x) ≡ gathered (j + 1)
  gather-in j s {row} now this =
      ap (λ (k : ℕ). row_of k (λ x. eqb x s || in_row row x)) (ap length now ∙ length-list_below (length d) (word_at (λ q. in_row d q || any_below j (H q))))
      ∙ row_of-cong (length d) _ _ (λ q h.
      ap (λ (b : Bool). eqb q s || b) (ap (λ (l : List ℕ). in_row l q) now ∙ in_row-of (length d) _ q h)
      ∙ turn (eqb q s) (in_row d q) (any_below j (H q))
      ∙ ap (λ (b : Bool). in_row d q || b) (ap (λ (b : Bool). any_below j (H q) || b) (sym (this q)) ∙ sym (any-more (H q) j)))
    where
      turn : (a b c : Bool) → a || (b || c) ≡ b || (c || a)
      turn true true c = refl
      turn true false true = refl
      turn true false false = refl
      turn false true c = refl
      turn false false c = sym (or-false c)

  -- turn j puts nothing in
  pub gather-out : (j : ℕ) {row : List ℕ} → row ≡ gathered j → ((q : ℕ) → H q j ≡ false) → row ≡ gathered (j + 1)
  gather-out j now this =
      now ∙ row_of-cong (length d) _ _ (λ q h.
      ap (λ (b : Bool). in_row d q || b) (sym (or-false (any_below j (H q))) ∙ ap (λ (b : Bool). any_below j (H q) || b) (sym (this q)) ∙ sym (any-more (H q) j)))

-- the states below n, put in one by one
pub gathered-below : (n : ℕ) → row_of 4 (λ q. in_row (replicate 4 0) q || any_below n (eqb q)) ≡ row_of 4 (λ q. ltb q n)
gathered-below n = row_of-cong 4 _ _ (λ q h. ap (λ (b : Bool). b || any_below n (eqb q)) (in_row-zeros 4 q)
    ∙ ⊎_elim (λ (l : q < n). sym (any-yes n (eqb q) q l (eq-eqb q q refl)) ∙ sym (lt-ltb q n l))
    (λ (l : n ≤ q). sym (any-no n (eqb q) (λ i m. ne_eqb q i (λ e. omega arith))) ∙ sym (le-ltb q n l)) (lt-or-ge q n))

-- the words from 4 * a on hold the set of action a
pub part_in : (sets : List ℕ) (a q : ℕ) → in_row (drop (4 * a) sets) q ≡ in_row sets (256 * a + q)
unfolding in_row
part_in sets a q =
    let word : 4 * a + q / 64 ≡ (256 * a + q) / 64 = omega arith in
    let place : q % 64 ≡ (256 * a + q) % 64 = omega arith in
    ap₂ (λ (x i : ℕ). bit x i) (get_or-drop (4 * a) sets (q / 64) 0 ∙ ap (λ (j : ℕ). get_or sets j 0) word) place

pub part_length : (sets : List ℕ) (a : ℕ) {part : List ℕ} → length sets ≡ 260 → a ≤ 64 → part ≡ drop (4 * a) sets → 4 ≤ length part
part_length sets a long h e = omega (arith, ap length e, length-drop (4 * a) sets)

-- ---- the members below n

pub states-in : (n : ℕ) (S : ℕ → Bool) (q : ℕ) → q < n → states_below n S q ≡ S q
states-in n S q h = rw (lt-ltb q n h)

pub states-out : (n : ℕ) (S : ℕ → Bool) (q : ℕ) → n ≤ q → states_below n S q ≡ false
states-out n S q h = rw (le-ltb q n h)

-- ---- the part of a slice from a on

pub tail-part : (a : ℕ) (xs : List ℕ) → take (length xs - a) (drop a xs) ≡ drop a xs
tail-part a xs = take_all (length xs - a) (drop a xs) (omega (arith, length-drop a xs))

pub tail-back : (a : ℕ) (xs ys : List ℕ) → put_mid a (length xs - a) xs ys ≡ take a xs ++ ys
tail-back a xs ys =
    ap (λ (l : List ℕ). take a xs ++ l)
    (ap (λ (l : List ℕ). ys ++ l) (drop_of_length-le (drop a xs) {i = length xs - a} (omega (arith, length-drop a xs))) ∙ append-nil ys)

-- ---- rows that are written whole

-- a row whose words were all written
pub row-whole : (k : ℕ) (S : Set) (d : List ℕ) → length d ≡ k → row_of k S ++ drop k d ≡ row_of k S
row-whole k S d e = ap (λ (l : List ℕ). row_of k S ++ l) (drop_of_length-le d {i = k} (omega arith)) ∙ append-nil (row_of k S)

-- the words of A, written into words that are 0, are the words of S: A is S in its w words, and S has no state above them
pub set_words : (k w : ℕ) (A S : Set) (d : List ℕ) → w ≤ k → length d ≡ k → ((j : ℕ) → get_or d j 0 ≡ 0) → ((q : ℕ) → q < w * 64 → A q ≡ S q)
    → ((q : ℕ) → w * 64 ≤ q → S q ≡ false) → row_of w A ++ drop w d ≡ row_of k S
set_words k w A S d room long blank agree none =
    list_ext k (word_at S) (row_of w A ++ drop w d) (omega (arith, length-append (row_of w A) (drop w d), length-list_below w (word_at A), length-drop w d, long)) (λ c h.
    ⊎_elim
    (λ (l : c < w).
    get_or-append (row_of w A) (drop w d) 0 c (omega (arith, length-list_below w (word_at A))) ∙ get_or-list_below 0 w (word_at A) c l
    ∙ word-at S c (word_at-lt A c) (λ i b. bit-word_at A c i b ∙ agree (c * 64 + i) (omega arith)))
    (λ (l : w ≤ c).
    let split : c ≡ length (row_of w A) + (c - w) = omega (arith, length-list_below w (word_at A)) in
    ap (λ (j : ℕ). get_or (row_of w A ++ drop w d) j 0) split ∙ get_or-append-add (row_of w A) (drop w d) (c - w) 0 ∙ get_or-drop w d (c - w) 0 ∙ blank (w + (c - w))
    ∙ word-at S c (pow_pos 64) (λ i b. bit-of-zero i ∙ sym (none (c * 64 + i) (omega arith))))
    (lt-or-ge c w))

-- a walk from one number that passes to the next: as many pass below `from` as below the next, and there is one where more pass
pub next_place : (f : ℕ → Bool) (k from r i : ℕ) → Next f k from r → length (passing from f) ≡ i → i < length (passing k f)
    → (r < k) × (f r ≡ true) × (length (passing r f) ≡ i)
next_place f k from r i next e l =
    let same : length (passing r f) ≡ i = ap length (passing-shorter from r f next.above next.none) ∙ e in
    let low : r < k = ⊎_elim (λ (z : r ≡ k). absurd (omega (arith, l, same, ap (λ (x : ℕ). length (passing x f)) z))) (λ (m : r < k). m) (eq-or-lt_of_le next.below) in
    (low, next.member low, same)

-- ---- a row that the states of S are put into one by one

-- state i is put in at turn i, if S has it
abbrev pick : Set → ℕ → ℕ → Bool
pick S q i = eqb q i && S i

abbrev pub picked : Set → ℕ → List ℕ
picked S = gathered (replicate {A = ℕ} 4 0) (pick S)

pub picked_none : (S : Set) → replicate {A = ℕ} 4 0 ≡ picked S 0
picked_none S = gather_none (replicate {A = ℕ} 4 0) (pick S) (λ j. subst⁻¹ (λ (x : ℕ). x < 2 ^ 64) (get_or-zeros 4 j) (pow_pos 64))

pub picked-in : (S : Set) (p : ℕ) {row : List ℕ} → row ≡ picked S p → S p ≡ true → row_of (length row) (λ x. eqb x p || in_row row x) ≡ picked S (p + 1)
picked-in S p now e = gather-in (replicate {A = ℕ} 4 0) (pick S) p p now (λ q. ap (λ (b : Bool). eqb q p && b) e ∙ and-true (eqb q p))

pub picked-out : (S : Set) (p : ℕ) {row : List ℕ} → row ≡ picked S p → S p ≡ false → row ≡ picked S (p + 1)
picked-out S p now e = gather-out (replicate {A = ℕ} 4 0) (pick S) p now (λ q. ap (λ (b : Bool). eqb q p && b) e ∙ and-false (eqb q p))

pub picked_all : (S : Set) (n : ℕ) → picked S n ≡ row_of 4 (states_below n S)
picked_all S n = row_of-cong 4 _ _ (λ q h. ap (λ (b : Bool). b || any_below n (pick S q)) (in_row-zeros 4 q) ∙ bool_iff (to q) (from q))
  where
    to : (q : ℕ) → any_below n (pick S q) ≡ true → states_below n S q ≡ true
    to q e =
        let s = any_some n (pick S q) e in
        let i = s.0 in
        let same = eqb-true q i (and-fst (eqb q i) (S i) s.2) in
        states-in n S q (subst⁻¹ (λ (x : ℕ). x < n) same s.1) ∙ ap S same ∙ and-snd (eqb q i) (S i) s.2

    from : (q : ℕ) → states_below n S q ≡ true → any_below n (pick S q) ≡ true
    from q e = sym (any-yes n (pick S q) q (ltb-true q n (and-fst (ltb q n) (S q) e)) (ap (λ (b : Bool). b && S q) (eq-eqb q q refl) ∙ and-snd (ltb q n) (S q) e))
