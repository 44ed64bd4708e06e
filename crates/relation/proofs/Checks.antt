-- Laws of the tests: what a test over every number below a bound says, inclusion of words and rows, and the bits from n on. Assumes nothing.
use mathlib.Core.Path.{◌≡◌, sym, ap, ap₂, ◌∙◌, subst⁻¹}
use mathlib.Core.Bool.{Bool, true, false, not, ◌&&◌, ◌||◌, xor}
use mathlib.Core.List.{List}
use mathlib.Core.Logic.{⊎_elim}
use Prim.Native.Nat.{ℕ, ◌+◌, ◌-◌, ◌*◌, ◌/◌, ◌%◌, ◌^◌, ◌≤◌, ◌<◌}
use native.Mathlib.Nat.{mod-lt}
use native.Mathlib.Omega.{arith}
use lib.Dec.{T, eqb}
use lib.Pow.{shr-shr, shr_lt}
use lib.ListN.{length, get_or, drop}
use borrow.Author.Tests.{lt-ltb, le-ltb, eq-eqb, ne_eqb, eqb-true, not-true}
use Rattle.rows.specs.Rows.{bit, in_row, row_words, included_below}
use Rattle.relation.specs.Matrix.{relation_of, Matrix}
use Rattle.relation.specs.Check.{reflexive_below, transitive_pair, transitive_at, transitive_below, clear_at, is_matrix, start_rules}
use Rattle.lts.specs.Rule.{Nothing, broken}
use Rattle.lts.proofs.Rule.{kept}
use Rattle.lts.specs.System.{Lts, all_states, reflexive, transitive}
use Rattle.lts.specs.Bounded.{lowest, any_below, all_below, ◌⇒◌}
use Rattle.rows.proofs.Bits.{word-ext, bit-of-zero, word-zero}
use Rattle.lts.proofs.Below.{any-cong, any-shorter, lowest-cong, lowest-shorter, all-at, all-cong, all_of, all-shorter, all_yes, and-fst, and-snd, bool_iff, lt-or-ge, true-T}
use Rattle.relation.proofs.Matrices.{in_row-drop, in_matrix-at}

-- ---- inclusion of a matrix's rows

pub rows-within : (n : ℕ) (g : List ℕ) (p q : ℕ) → Matrix n g → p < n
    → included_below (row_words n * 64) (in_row (drop (p * row_words n) g)) (in_row (drop (q * row_words n) g)) ≡ included_below n (relation_of n g p) (relation_of n g q)
unfolding included_below
rows-within n g p q ok hp =
    all-cong (row_words n * 64) _ _ (λ i l. ap₂ ◌⇒◌ (in_row-drop (row_words n) g p i) (in_row-drop (row_words n) g q i))
    ∙ all-shorter n (row_words n * 64) (λ i. relation_of n g p i ⇒ relation_of n g q i) (omega arith) (λ i h l. ap (λ (b : Bool). b ⇒ relation_of n g q i) (ok.clear p i hp h l))

-- two rows of matrices
pub rows-differ : (n : ℕ) (g h : List ℕ) (p r : ℕ) → Matrix n g → Matrix n h → p < n → r < n
    → any_below (row_words n * 64) (λ q. xor (in_row (drop (p * row_words n) g) q) (in_row (drop (r * row_words n) h) q)) ≡ any_below n (λ q. xor (relation_of n g p q) (relation_of n h r q))
unfolding xor
rows-differ n g h p r okg okh hp hr =
    any-cong (row_words n * 64) _ _ (λ q l. ap₂ xor (in_row-drop (row_words n) g p q) (in_row-drop (row_words n) h r q))
    ∙ any-shorter n (row_words n * 64) (λ q. xor (relation_of n g p q) (relation_of n h r q)) (omega arith)
    (λ q l u. ap₂ xor (okg.clear p q hp l u) (okh.clear r q hr l u))

-- the lowest state of a row that has one
pub row-lowest : (n : ℕ) (g : List ℕ) (p q : ℕ) {row : List ℕ} {w : ℕ} → w ≡ row_words n → row ≡ drop (p * row_words n) g → p < n → q < n
    → relation_of n g p q ≡ true → lowest (w * 64) (in_row row) ≡ lowest n (relation_of n g p)
row-lowest n g p q width at hp hq e =
    ap₂ (λ (k : ℕ) (l : List ℕ). lowest (k * 64) (in_row l)) width at
    ∙ lowest-cong (row_words n * 64) _ _ (λ i. in_row-drop (row_words n) g p i) ∙ lowest-shorter n (row_words n * 64) (relation_of n g p) (omega arith) q hq e

-- ---- the bits of a word from m on: none is set where `x >> m` is 0

pub bit-shr : (x m i : ℕ) → bit (x / 2 ^ m) i ≡ bit x (m + i)
unfolding bit
bit-shr x m i = ap (λ (y : ℕ). eqb (y % 2) 1) (shr-shr x m i)

pub high-none : (x m : ℕ) → x / 2 ^ m ≡ 0 → (i : ℕ) → m ≤ i → bit x i ≡ false
high-none x m e i h =
    let split : i ≡ m + (i - m) = omega arith in
    ap (bit x) split ∙ sym (bit-shr x m (i - m)) ∙ ap (λ (y : ℕ). bit y (i - m)) e ∙ bit-of-zero (i - m)

pub high_zero : (x m k : ℕ) → x < 2 ^ (k + m) → ((i : ℕ) → m ≤ i → i < k + m → bit x i ≡ false) → x / 2 ^ m ≡ 0
high_zero x m k h none = word-ext k (λ i. false) (shr_lt k m h) (λ i l. bit-shr x m i ∙ none (m + i) (omega arith) (omega arith)) ∙ word-zero k

-- ---- a row with no bit at q ≥ n

module _ (n : ℕ) (g : List ℕ) (p : ℕ) where
  -- n fills its words
  pub clear-full : n % 64 ≡ 0 → true ≡ clear_at n g p
  clear-full e = all_yes _ _ (λ q h. rw (lt-ltb q n (omega arith)))

  high_bit : (i : ℕ) → i < 64 → relation_of n g p (n / 64 * 64 + i) ≡ bit (get_or g (p * row_words n + n / 64) 0) i
  high_bit i l = in_matrix-at (row_words n) g p (n / 64) i l

  pub clear-last : 0 < n % 64 → get_or g (p * row_words n + n / 64) 0 < 2 ^ 64 → eqb (get_or g (p * row_words n + n / 64) 0 / 2 ^ (n % 64)) 0 ≡ clear_at n g p
  clear-last h fits = bool_iff there back
    where
      x : ℕ
      x = get_or g (p * row_words n + n / 64) 0

      m : ℕ
      m = n % 64

      out : (q : ℕ) → x / 2 ^ m ≡ 0 → n ≤ q → q < row_words n * 64 → relation_of n g p q ≡ false
      out q e l u =
          let i = q - n / 64 * 64 in
          let split : q ≡ n / 64 * 64 + i = omega arith in
          ap (relation_of n g p) split ∙ high_bit i (omega arith) ∙ high-none x m e i (omega arith)

      there : eqb (x / 2 ^ m) 0 ≡ true → clear_at n g p ≡ true
      there e = all_of _ _ (λ q u. ⊎_elim (λ (l : q < n). ap (λ (b : Bool). b || not (relation_of n g p q)) (lt-ltb q n l))
          (λ (l : n ≤ q). ap₂ (λ (a b : Bool). a || not b) (le-ltb q n l) (out q (eqb-true (x / 2 ^ m) 0 e) l u)) (lt-or-ge q n))

      back : clear_at n g p ≡ true → eqb (x / 2 ^ m) 0 ≡ true
      back e =
          let room : m < 64 = mod-lt n (omega arith) in
          let whole : 64 - m + m ≡ 64 = omega arith in
          eq-eqb (x / 2 ^ m) 0 (high_zero x m (64 - m) (subst⁻¹ (λ (k : ℕ). x < 2 ^ k) whole fits) (λ i l u.
          let q = n / 64 * 64 + i in
          sym (high_bit i (omega arith))
          ∙ not-true (relation_of n g p q) (sym (ap (λ (b : Bool). b || not (relation_of n g p q)) (le-ltb q n (omega arith))) ∙ all-at _ _ e q (omega arith))))

-- ---- the test of a matrix says that it is one

pub matrix-test : (n : ℕ) (g : List ℕ) → is_matrix n g ≡ true → Matrix n g
unfolding is_matrix
matrix-test n g e = record {
  long = eqb-true _ _ (and-fst (eqb (length g) (n * row_words n)) (all_below n (clear_at n g)) e);
  clear = λ p q hp l u.
      not-true (relation_of n g p q) (sym (ap (λ (b : Bool). b || not (relation_of n g p q)) (le-ltb q n l)) ∙ all-at _ _ (all-at n (clear_at n g) (and-snd (eqb (length g) (n * row_words n)) (all_below n (clear_at n g)) e) p hp) q u);
}

pub wrong-length : (n : ℕ) (g : List ℕ) → (length g ≡ n * row_words n → ⊥) → false ≡ is_matrix n g
unfolding is_matrix
wrong-length n g h = sym (ap (λ (b : Bool). b && all_below n (clear_at n g)) (ne_eqb (length g) (n * row_words n) h))

pub right-length : (n : ℕ) (g : List ℕ) → length g ≡ n * row_words n → all_below n (clear_at n g) ≡ is_matrix n g
unfolding is_matrix
right-length n g h = sym (ap (λ (b : Bool). b && all_below n (clear_at n g)) (eq-eqb (length g) (n * row_words n) h))

-- ---- what a start that keeps the rules is

module _ (n : ℕ) (g : List ℕ) where
  passed : broken (start_rules n g) ≡ Nothing → (is_matrix n g ≡ true) × (reflexive_below n (relation_of n g) ≡ true) × (transitive_below n (relation_of n g) ≡ true)
  unfolding start_rules
  passed e = let a = kept _ _ _ e in let b = kept _ _ _ a.1 in (a.0, b.0, (kept _ _ _ b.1).0)

  pub checked-matrix : broken (start_rules n g) ≡ Nothing → Matrix n g
  checked-matrix e = matrix-test n g (passed e).0

  pub checked-reflexive : broken (start_rules n g) ≡ Nothing → (L : Lts) → L.states ≡ n → T (reflexive L (relation_of n g))
  unfolding reflexive all_states reflexive_below
  checked-reflexive e L s = true-T _ (ap (λ (k : ℕ). all_below k (λ p. relation_of n g p p)) s ∙ (passed e).1)

  pub checked-transitive : broken (start_rules n g) ≡ Nothing → (L : Lts) → L.states ≡ n → T (transitive L (relation_of n g))
  unfolding transitive all_states transitive_below transitive_at transitive_pair
  checked-transitive e L s = true-T _ (ap (λ (k : ℕ). all_below k (λ p. all_below k (λ q. all_below k (λ r. relation_of n g p q && relation_of n g q r ⇒ relation_of n g p r)))) s ∙ (passed e).2)
