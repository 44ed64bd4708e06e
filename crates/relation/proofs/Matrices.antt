-- Laws of matrices: a matrix and its relation determine each other below n, and what a matrix is once a row has been written. Assumes nothing.
use mathlib.Core.Path.{◌≡◌, refl, sym, ap, ap₂, ◌∙◌, subst, subst⁻¹}
use mathlib.Core.Bool.{Bool, true, false, ◌&&◌, cond}
use mathlib.Core.List.{List, ◌++◌, append_assoc, append-nil}
use mathlib.Core.Logic.{⊎_elim}
use Prim.Native.Nat.{ℕ, zero, suc, ◌+◌, ◌-◌, ◌*◌, ◌/◌, ◌%◌, ◌^◌, ◌≤◌, ◌<◌}
use native.Mathlib.Nat.{mod-lt, div-add-mod', div-lt_iff_lt-mul, add-mul, one-mul, not-suc-le-zero, mul-zero, zero-mul, suc-mul, mul-le-mul_right, eq-or-lt_of_le, le_trans, mul-le-mul_left}
use native.Mathlib.Omega.{arith}
use lib.Dec.{ltb, eqb}
use lib.Arith.{digits_div, digits_mod, digits_lt}
use lib.ListN.{length, get_or, take, drop, length-append, get_or-append, length-drop, drop_of_length-le}
use lib.Seq.{get_or-drop, get_or-take, get_or-append-add, length-take-le, take_at, drop_at, drop-drop}
use borrow.Rule.Slice.PartMut.{put_mid}
use borrow.Author.Tests.{lt-ltb, le-ltb, eq-eqb, ne_eqb}
use Rattle.rows.specs.Rows.{bit, in_row, word_at, row_of, row_words, states_below}
use Rattle.relation.specs.Matrix.{in_matrix, relation_of, matrix_word, matrix_of, Matrix, set_row, rows_of}
use Rattle.lts.specs.Bounded.{list_below}
use Rattle.rows.proofs.Rows.{word-at, bit-word_at, word_at-lt, states-in, states-out, tail-part, tail-back}
use Rattle.lts.proofs.Below.{lt-or-ge, length-list_below, get_or-list_below, list_ext, list_below-cong, list_below-add}

-- each element is a word
abbrev pub Words : List ℕ → Type 0
Words g = (j : ℕ) → get_or g j 0 < 2 ^ 64

pub in_matrix-at : (w : ℕ) (g : List ℕ) (p c i : ℕ) → i < 64 → in_matrix w g p (c * 64 + i) ≡ bit (get_or g (p * w + c) 0) i
unfolding in_matrix
in_matrix-at w g p c i h = rw (digits_div c h, digits_mod c h)

-- row p of a matrix
pub in_row-drop : (w : ℕ) (g : List ℕ) (p q : ℕ) → in_row (drop (p * w) g) q ≡ in_matrix w g p q
unfolding in_row in_matrix
in_row-drop w g p q = rw get_or-drop

-- ---- states, words and rows in range

pub state-word : (n : ℕ) {q : ℕ} → q < n → q / 64 < row_words n
state-word n h = omega (arith, h)

-- a word of a row, among all words
pub word_below : (n : ℕ) {p c : ℕ} → p < n → c < row_words n → p * row_words n + c < n * row_words n
word_below n hp hc = digits_lt hp hc

-- a matrix has at most 1,024 words
pub matrix-small : (n : ℕ) → n ≤ 256 → n * row_words n ≤ 1024
matrix-small n h = le_trans (mul-le-mul_left n words) (omega arith)
  where
    words : row_words n ≤ 4
    words = omega arith

-- ---- the matrix of a relation

pub length-matrix_of : (n : ℕ) (R : ℕ → ℕ → Bool) → length (matrix_of n R) ≡ n * row_words n
unfolding matrix_of
length-matrix_of n R = length-list_below (n * row_words n) _

pub get_or-matrix_of : (n : ℕ) (R : ℕ → ℕ → Bool) (p c : ℕ) → p < n → c < row_words n → get_or (matrix_of n R) (p * row_words n + c) 0 ≡ word_at (states_below n (R p)) c
unfolding matrix_of
get_or-matrix_of n R p c hp hc =
    get_or-list_below 0 (n * row_words n) _ (p * row_words n + c) (word_below n hp hc)
    ∙ ap₂ (λ (a b : ℕ). word_at (states_below n (R a)) b) (digits_div p hc) (digits_mod p hc)

-- the relation of a matrix of R is R on the states, and empty beyond them
pub relation-states : (n : ℕ) (R : ℕ → ℕ → Bool) (p q : ℕ) → p < n → q < row_words n * 64 → relation_of n (matrix_of n R) p q ≡ states_below n (R p) q
unfolding in_matrix
relation-states n R p q hp hq =
    let low : q % 64 < 64 = mod-lt q (omega arith) in
    ap (λ (x : ℕ). bit x (q % 64)) (get_or-matrix_of n R p (q / 64) hp (omega (arith, hq))) ∙ bit-word_at (states_below n (R p)) (q / 64) (q % 64) low
    ∙ ap (states_below n (R p)) (div-add-mod' q 64)

pub relation-matrix : (n : ℕ) (R : ℕ → ℕ → Bool) (p q : ℕ) → p < n → q < n → relation_of n (matrix_of n R) p q ≡ R p q
relation-matrix n R p q hp hq = relation-states n R p q hp (omega (arith, hq)) ∙ states-in n (R p) q hq

pub matrix-formed : (n : ℕ) (R : ℕ → ℕ → Bool) → Matrix n (matrix_of n R)
matrix-formed n R = record { long = length-matrix_of n R; clear = λ p q hp hn hq. relation-states n R p q hp hq ∙ states-out n (R p) q hn }

words-list : (k : ℕ) (f : ℕ → ℕ) → ((j : ℕ) → f j < 2 ^ 64) → Words (list_below k f)
unfolding list_below
words-list zero f h j = omega arith
words-list (suc k) f h zero = h 0
words-list (suc k) f h (suc j) = words-list k (λ i. f (suc i)) (λ i. h (suc i)) j

pub words-matrix : (n : ℕ) (R : ℕ → ℕ → Bool) → Words (matrix_of n R)
unfolding matrix_of
words-matrix n R = words-list (n * row_words n) _ (λ j. word_at-lt _ _)

pub width_positive : (n w : ℕ) {j : ℕ} → j < n * w → 0 < w
width_positive n zero {j} h = absurd (not-suc-le-zero (subst (λ (k : ℕ). j < k) (mul-zero n) h))
width_positive n (suc w) h = omega arith

-- ---- a list of words whose bits are R's is the matrix of R

pub matrix-ext : (n : ℕ) (R : ℕ → ℕ → Bool) (g : List ℕ) → length g ≡ n * row_words n → Words g
    → ((p q : ℕ) → p < n → q < row_words n * 64 → relation_of n g p q ≡ states_below n (R p) q) → g ≡ matrix_of n R
unfolding matrix_of
matrix-ext n R g long words same = list_ext (n * row_words n) _ g long word
  where
    word : (j : ℕ) → j < n * row_words n → get_or g j 0 ≡ word_at (states_below n (R (j / row_words n))) (j % row_words n)
    word j h =
        let pos : 0 < row_words n = width_positive n (row_words n) h in
        let w = row_words n in
        let row : j / w < n = (div-lt_iff_lt-mul pos).1 h in
        let col : j % w < w = mod-lt j pos in
        word-at (states_below n (R (j / w))) (j % w) (words j) (λ i l.
        ap (λ (k : ℕ). bit (get_or g k 0) i) (sym (div-add-mod' j w)) ∙ sym (in_matrix-at w g (j / w) (j % w) i l)
        ∙ same (j / w) (j % w * 64 + i) row (digits_lt col l))

pub matrix-relation : (n : ℕ) (g : List ℕ) → Matrix n g → Words g → g ≡ matrix_of n (relation_of n g)
matrix-relation n g ok words =
    matrix-ext n (relation_of n g) g ok.long words (λ p q hp hq.
    ⊎_elim (λ (h : q < n). sym (states-in n (relation_of n g p) q h)) (λ (h : n ≤ q). ok.clear p q hp h hq ∙ sym (states-out n (relation_of n g p) q h)) (lt-or-ge q n))

pub matrix_of-cong : (n : ℕ) (R S : ℕ → ℕ → Bool) → ((p q : ℕ) → p < n → q < n → R p q ≡ S p q) → matrix_of n R ≡ matrix_of n S
matrix_of-cong n R S same =
    matrix-ext n S (matrix_of n R) (length-matrix_of n R) (words-matrix n R) (λ p q hp hq. relation-states n R p q hp hq
    ∙ ⊎_elim (λ (h : q < n). ap (λ (b : Bool). ltb q n && b) (same p q hp h)) (λ (h : n ≤ q). states-out n (R p) q h ∙ sym (states-out n (S p) q h)) (lt-or-ge q n))

-- ---- a part from a to the end that was lent, `&mut xs[a..]`, and came back as ys

-- row p of the matrix, as a part that starts at its first word
pub in_row-part : (w p : ℕ) (g : List ℕ) (q : ℕ) → in_row (take (length g - p * w) (drop (p * w) g)) q ≡ in_matrix w g p q
in_row-part w p g q = ap (λ (l : List ℕ). in_row l q) (tail-part (p * w) g) ∙ in_row-drop w g p q

-- row p lies within the matrix
pub row_room : (n w : ℕ) {p : ℕ} → p < n → p * w + w ≤ n * w
row_room n w {p} h = subst (λ (k : ℕ). k ≤ n * w) (suc-mul p w) (mul-le-mul_right w h)

pub row_fits : (n : ℕ) {p w : ℕ} (g : List ℕ) → w ≡ row_words n → p < n → length g ≡ n * row_words n → p * w + w ≤ length g
row_fits n {p} g e h long = subst⁻¹ (λ (w : ℕ). p * w + w ≤ length g) e (omega (arith, row_room n (row_words n) h))

pub row-long : (n : ℕ) {p : ℕ} (g : List ℕ) → p < n → length g ≡ n * row_words n → row_words n ≤ length (drop (p * row_words n) g)
row-long n {p} g h long = omega (arith, row_fits n g refl h long, length-drop (p * row_words n) g)

-- the word of a pair of states lies within the matrix
pub pair-word : (n : ℕ) {p q : ℕ} (g : List ℕ) → p < n → q < n → length g ≡ n * row_words n → p * row_words n + q / 64 < length g
pair-word n g hp hq long = omega (arith, word_below n hp (state-word n hq))

-- ---- a matrix that is written row by row: after p rows it is `rows_to n R p ++ drop (p * w) d`

module _ (n : ℕ) (R : ℕ → ℕ → Bool) where
  pub rows_to : ℕ → List ℕ
  rows_to p = list_below (p * row_words n) (matrix_word n R)

  pub rows_none : (d : List ℕ) → d ≡ rows_to 0 ++ drop (0 * row_words n) d
  unfolding rows_to list_below
  rows_none d = rw (zero-mul (row_words n))

  rows-suc : (p : ℕ) → rows_to (p + 1) ≡ rows_to p ++ row_of (row_words n) (states_below n (R p))
  unfolding rows_to
  rows-suc p =
      ap (λ (k : ℕ). list_below k (matrix_word n R)) (add-mul p 1 (row_words n) ∙ ap (λ (k : ℕ). p * row_words n + k) (one-mul (row_words n)))
      ∙ list_below-add (p * row_words n) (row_words n) _
      ∙ ap (λ (l : List ℕ). rows_to p ++ l) (list_below-cong (row_words n) _ _ (λ c h. ap₂ (λ (a b : ℕ). word_at (states_below n (R a)) b) (digits_div p h) (digits_mod p h)))

  rows_step : (d g ys : List ℕ) (p : ℕ) → g ≡ rows_to p ++ drop (p * row_words n) d
      → ys ≡ row_of (row_words n) (states_below n (R p)) ++ drop (row_words n) (take (length g - p * row_words n) (drop (p * row_words n) g))
      → put_mid (p * row_words n) (length g - p * row_words n) g ys ≡ rows_to (p + 1) ++ drop ((p + 1) * row_words n) d
  unfolding rows_to
  rows_step d g ys p now last =
      let w = row_words n in
      let long : length (rows_to p) ≡ p * w = length-list_below (p * w) _ in
      let rest : drop (p * w) g ≡ drop (p * w) d = ap (drop (p * w)) now ∙ drop_at (rows_to p) (drop (p * w) d) (p * w) long in
      let next : p * w + w ≡ (p + 1) * w = sym (add-mul p 1 w ∙ ap (λ (k : ℕ). p * w + k) (one-mul w)) in
      tail-back (p * w) g ys
      ∙ ap₂ (λ (a b : List ℕ). a ++ b) (ap (take (p * w)) now ∙ take_at (rows_to p) (drop (p * w) d) (p * w) long)
      (last ∙ ap (λ (l : List ℕ). row_of w (states_below n (R p)) ++ drop w l) (tail-part (p * w) g ∙ rest))
      ∙ sym (append_assoc (rows_to p) (row_of w (states_below n (R p))) (drop w (drop (p * w) d)))
      ∙ ap₂ (λ (a b : List ℕ). a ++ b) (sym (rows-suc p)) (drop-drop w (p * w) d ∙ ap (λ (k : ℕ). drop k d) next)

  -- row p was lent from its first word to the matrix's end, and came back with its words written
  pub rows_more : {w : ℕ} → w ≡ row_words n → (d g ys : List ℕ) (p : ℕ) → g ≡ rows_to p ++ drop (p * row_words n) d
      → ys ≡ row_of w (states_below n (R p)) ++ drop w (take (length g - p * w) (drop (p * w) g))
      → put_mid (p * w) (length g - p * w) g ys ≡ rows_to (p + 1) ++ drop ((p + 1) * row_words n) d
  rows_more e d g ys p now =
      subst⁻¹ (λ (w : ℕ). ys ≡ row_of w (states_below n (R p)) ++ drop w (take (length g - p * w) (drop (p * w) g))
      → put_mid (p * w) (length g - p * w) g ys ≡ rows_to (p + 1) ++ drop ((p + 1) * row_words n) d) e (rows_step d g ys p now)

  pub rows-done : (d g : List ℕ) (p : ℕ) → g ≡ rows_to p ++ drop (p * row_words n) d → length d ≡ n * row_words n → p ≡ n → g ≡ matrix_of n R
  unfolding rows_to matrix_of
  rows-done d g p now long end =
      now ∙ ap (λ (k : ℕ). rows_to k ++ drop (k * row_words n) d) end
      ∙ ap (λ (l : List ℕ). rows_to n ++ l) (drop_of_length-le d {i = n * row_words n} (omega (arith, long))) ∙ append-nil (rows_to n)

-- ---- a matrix with one row written anew

module _ (a w : ℕ) (g : List ℕ) (S : ℕ → Bool) (room : a + w ≤ length g) where
  pub put : List ℕ
  put = take a g ++ (row_of w S ++ drop w (drop a g))

  pub length-put : length put ≡ length g
  unfolding put
  length-put = simp (length-append, length-take-le a g (omega arith), length-list_below, length-drop) (omega arith)

  put-below : (j : ℕ) → j < a → get_or put j 0 ≡ get_or g j 0
  unfolding put
  put-below j h =
      get_or-append (take a g) _ 0 j (omega (arith, length-take-le a g (omega arith))) ∙ get_or-take a g j 0 h

  put-row : (c : ℕ) → c < w → get_or put (a + c) 0 ≡ word_at S c
  unfolding put
  put-row c h =
      ap (λ (k : ℕ). get_or put (k + c) 0) (sym (length-take-le a g (omega arith))) ∙ get_or-append-add (take a g) _ c 0
      ∙ get_or-append (row_of w S) _ 0 c (omega (arith, length-list_below w (word_at S))) ∙ get_or-list_below 0 w (word_at S) c h

  put-above : (j : ℕ) → a + w ≤ j → get_or put j 0 ≡ get_or g j 0
  unfolding put
  put-above j h =
      let k = j - (a + w) in
      let split : j ≡ length (take a g) + (length (row_of w S) + k) = omega (arith, length-take-le a g (omega arith), length-list_below w (word_at S)) in
      let back : a + (w + k) ≡ j = omega arith in
      ap (λ (i : ℕ). get_or put i 0) split ∙ get_or-append-add (take a g) _ (length (row_of w S) + k) 0 ∙ get_or-append-add (row_of w S) _ k 0
      ∙ get_or-drop w (drop a g) k 0 ∙ get_or-drop a g (w + k) 0 ∙ ap (λ (i : ℕ). get_or g i 0) back

  pub words-put : Words g → Words put
  words-put words j =
      ⊎_elim (λ (h : j < a). subst (λ (x : ℕ). x < 2 ^ 64) (sym (put-below j h)) (words j))
      (λ (h : a ≤ j). ⊎_elim
      (λ (l : j < a + w).
      let back : a + (j - a) ≡ j = omega arith in
      subst (λ (x : ℕ). x < 2 ^ 64) (sym (ap (λ (i : ℕ). get_or put i 0) (sym back) ∙ put-row (j - a) (omega arith))) (word_at-lt S (j - a)))
      (λ (l : a + w ≤ j). subst (λ (x : ℕ). x < 2 ^ 64) (sym (put-above j l)) (words j)) (lt-or-ge j (a + w)))
      (lt-or-ge j a)

module _ (n p : ℕ) (g : List ℕ) (S : ℕ → Bool) (ok : Matrix n g) (words : Words g) (hp : p < n)
    (empty : (q : ℕ) → n ≤ q → q < row_words n * 64 → S q ≡ false) where
  in-matrix : p * row_words n + row_words n ≤ length g
  in-matrix = omega (arith, row_room n (row_words n) hp, ok.long)

  rows_apart : (t s c : ℕ) → t < s → c < row_words n → t * row_words n + c < s * row_words n
  rows_apart t s c h l = omega (arith, row_room s (row_words n) h)

  put-relation : (t q : ℕ) → t < n → q < row_words n * 64 → relation_of n (put (p * row_words n) (row_words n) g S in-matrix) t q ≡ set_row p S (relation_of n g) t q
  unfolding in_matrix
  put-relation t q ht hq =
      let col : q / 64 < row_words n = omega arith in
      ⊎_elim
      (λ (h : t < p). ap (λ (x : ℕ). bit x (q % 64)) (put-below _ _ g S in-matrix (t * row_words n + q / 64) (rows_apart t p (q / 64) h col))
      ∙ sym (ap (λ (b : Bool). cond b (S q) (relation_of n g t q)) (ne_eqb t p (λ e. omega arith))))
      (λ (h : p ≤ t). ⊎_elim
      (λ (e : p ≡ t).
      ap (λ (k : ℕ). bit (get_or (put (p * row_words n) (row_words n) g S in-matrix) (k * row_words n + q / 64) 0) (q % 64)) (sym e)
      ∙ ap (λ (x : ℕ). bit x (q % 64)) (put-row _ _ g S in-matrix (q / 64) col) ∙ bit-word_at S (q / 64) (q % 64) (mod-lt q (omega arith)) ∙ ap S (div-add-mod' q 64)
      ∙ sym (ap (λ (b : Bool). cond b (S q) (relation_of n g t q)) (eq-eqb t p (sym e))))
      (λ (l : p < t). ap (λ (x : ℕ). bit x (q % 64)) (put-above _ _ g S in-matrix (t * row_words n + q / 64) (omega (arith, row_room t (row_words n) l)))
      ∙ sym (ap (λ (b : Bool). cond b (S q) (relation_of n g t q)) (ne_eqb t p (λ e. omega arith))))
      (eq-or-lt_of_le h))
      (lt-or-ge t p)

  written : (ys : List ℕ) → ys ≡ row_of (row_words n) S ++ drop (row_words n) (take (length g - p * row_words n) (drop (p * row_words n) g))
      → put_mid (p * row_words n) (length g - p * row_words n) g ys ≡ matrix_of n (set_row p S (relation_of n g))
  unfolding put
  written ys last =
      tail-back (p * row_words n) g ys
      ∙ ap (λ (l : List ℕ). take (p * row_words n) g ++ l) (last ∙ ap (λ (l : List ℕ). row_of (row_words n) S ++ drop (row_words n) l) (tail-part (p * row_words n) g))
      ∙ matrix-ext n (set_row p S (relation_of n g)) (put _ _ g S in-matrix) (length-put _ _ g S in-matrix ∙ ok.long) (words-put _ _ g S in-matrix words)
      (λ t q ht hq. put-relation t q ht hq
      ∙ ⊎_elim (λ (h : q < n). sym (states-in n (set_row p S (relation_of n g) t) q h))
      (λ (h : n ≤ q). none (eqb t p) (empty q h hq) (ok.clear t q ht h hq) ∙ sym (states-out n (set_row p S (relation_of n g) t) q h)) (lt-or-ge q n))
    where
      none : (b : Bool) {x y : Bool} → x ≡ false → y ≡ false → cond b x y ≡ false
      none true e f = e
      none false e f = f

  -- row p was lent from its first word to the matrix's end, and came back with its words written
  pub row_written : {w : ℕ} → w ≡ row_words n → (ys : List ℕ) → ys ≡ row_of w S ++ drop w (take (length g - p * w) (drop (p * w) g))
      → put_mid (p * w) (length g - p * w) g ys ≡ matrix_of n (set_row p S (relation_of n g))
  row_written e ys =
      subst⁻¹ (λ (w : ℕ). ys ≡ row_of w S ++ drop w (take (length g - p * w) (drop (p * w) g))
      → put_mid (p * w) (length g - p * w) g ys ≡ matrix_of n (set_row p S (relation_of n g))) e (written ys)

-- row p was lent so, and came back as what β makes of it and of the set M
pub row-zipped : (n p : ℕ) (g : List ℕ) (β : Bool → Bool → Bool) (M : ℕ → Bool) → ((b : Bool) → β false b ≡ false) → Matrix n g → Words g → p < n
    → {w : ℕ} → w ≡ row_words n → (ys : List ℕ)
    → ys ≡ row_of w (λ q. β (in_row (take (length g - p * w) (drop (p * w) g)) q) (M q)) ++ drop w (take (length g - p * w) (drop (p * w) g))
    → put_mid (p * w) (length g - p * w) g ys ≡ matrix_of n (set_row p (λ q. β (relation_of n g p q) (M q)) (relation_of n g))
row-zipped n p g β M none ok words hp {w} e ys last =
    row_written n p g (λ q. β (in_row (take (length g - p * w) (drop (p * w) g)) q) (M q)) ok words hp
    (λ q h l. ap (λ (b : Bool). β b (M q)) (part q ∙ ok.clear p q hp h l) ∙ none (M q)) e ys last
    ∙ matrix_of-cong n _ _ (λ t q ht hq. ap (λ (b : Bool). cond (eqb t p) (β b (M q)) (relation_of n g t q)) (part q))
  where
    part : (q : ℕ) → in_row (take (length g - p * w) (drop (p * w) g)) q ≡ relation_of n g p q
    part q = ap (λ (k : ℕ). in_row (take (length g - p * k) (drop (p * k) g)) q) e ∙ in_row-part (row_words n) p g q

-- the row p that was set, and any other
pub set_here : (p : ℕ) (S : ℕ → Bool) (R : ℕ → ℕ → Bool) (q : ℕ) → set_row p S R p q ≡ S q
set_here p S R q = ap (λ (b : Bool). cond b (S q) (R p q)) (eq-eqb p p refl)

pub set_other : (p : ℕ) (S : ℕ → Bool) (R : ℕ → ℕ → Bool) (t q : ℕ) → (t ≡ p → ⊥) → set_row p S R t q ≡ R t q
set_other p S R t q ne = ap (λ (b : Bool). cond b (S q) (R t q)) (ne_eqb t p ne)

-- ---- a matrix that is changed row by row: after p rows its relation is `rows_of p N R`

pub relation-of : (n : ℕ) (R : ℕ → ℕ → Bool) {g : List ℕ} → g ≡ matrix_of n R → (p q : ℕ) → p < n → q < n → relation_of n g p q ≡ R p q
relation-of n R e p q hp hq = ap (λ (l : List ℕ). relation_of n l p q) e ∙ relation-matrix n R p q hp hq

pub formed-of : (n : ℕ) (R : ℕ → ℕ → Bool) {g : List ℕ} → g ≡ matrix_of n R → Matrix n g
formed-of n R e = subst⁻¹ (Matrix n) e (matrix-formed n R)

module _ (n : ℕ) (N R : ℕ → ℕ → Bool) where
  pub done_none : matrix_of n R ≡ matrix_of n (rows_of 0 N R)
  done_none = matrix_of-cong n _ _ (λ t q ht hq. sym (ap (λ (b : Bool). cond b (N t q) (R t q)) (le-ltb t 0 (omega arith))))

  -- X has the rows of N below p, and at p, and those of R above
  pub done_more : (p : ℕ) (X : ℕ → ℕ → Bool) → ((t q : ℕ) → t < n → q < n → (t ≡ p → ⊥) → X t q ≡ rows_of p N R t q) → ((q : ℕ) → q < n → X p q ≡ N p q)
      → matrix_of n X ≡ matrix_of n (rows_of (p + 1) N R)
  done_more p X other here = matrix_of-cong n _ _ (λ t q ht hq.
      ⊎_elim
      (λ (h : t < p). other t q ht hq (λ e. omega arith) ∙ ap (λ (b : Bool). cond b (N t q) (R t q)) (lt-ltb t p h ∙ sym (lt-ltb t (p + 1) (omega arith))))
      (λ (h : p ≤ t). ⊎_elim
      (λ (e : p ≡ t). ap (λ (k : ℕ). X k q) (sym e) ∙ here q hq ∙ ap (λ (k : ℕ). N k q) e ∙ sym (ap (λ (b : Bool). cond b (N t q) (R t q)) (lt-ltb t (p + 1) (omega arith))))
      (λ (l : p < t). other t q ht hq (λ e. omega arith) ∙ ap (λ (b : Bool). cond b (N t q) (R t q)) (le-ltb t p h ∙ sym (le-ltb t (p + 1) (omega arith))))
      (eq-or-lt_of_le h))
      (lt-or-ge t p))
