-- A list of sets in which some sets are rewritten: a set, the sets of a word, or the sets of a set at a time. Assumes nothing.
use mathlib.Core.Path.{◌≡◌, refl, sym, ap, ap₂, ◌∙◌}
use mathlib.Core.Bool.{Bool, true, false, cond, not, ◌&&◌, ◌||◌, and-true, and-not_self, or-false, true≢false}
use mathlib.Core.List.{List}
use mathlib.Core.Logic.{⊎_elim}
use Prim.Native.Nat.{ℕ, ◌+◌, ◌-◌, ◌*◌, ◌/◌, ◌%◌, ◌^◌, ◌≤◌, ◌<◌}
use native.Mathlib.Nat.{mod-lt}
use native.Mathlib.Omega.{arith}
use lib.Bits.{bit_and}
use lib.Count.{count_trailing_zeros}
use lib.Dec.{eqb, ltb}
use lib.ListN.{length, get_or}
use borrow.Author.Tests.{eq-eqb, eqb-true, lt-ltb, le-ltb}
use Rattle.lts.specs.System.{Set, Rel}
use Rattle.lts.proofs.Below.{clash, either, bool_iff, lt-or-ge, and-fst, and-snd}
use Rattle.rows.specs.Rows.{bit, in_row, row_of}
use Rattle.rows.proofs.Bits.{bit-of-zero}
use Rattle.rows.proofs.Rows.{minus-bitwise}
use Rattle.sets.specs.Sets.{set_at, sets_of, updated, window}
use Rattle.sets.proofs.Lists.{sets-in, sets-cong, sets-long, sets-ext, put-sets}
use Rattle.sets.proofs.Walks.{Part, low-lt, low-in, drop-lowest}

-- the rows of New at W, and those of Old elsewhere
abbrev pub mixed : Set → Rel → Rel → Rel
mixed W New Old = updated W (λ t _. New t) Old

pub mixed-in : (W : Set) (New Old : Rel) (t h : ℕ) → W t ≡ true → mixed W New Old t h ≡ New t h
unfolding updated
mixed-in W New Old t h e = ap (λ (b : Bool). cond b (New t h) (Old t h)) e

pub mixed-out : (W : Set) (New Old : Rel) (t h : ℕ) → W t ≡ false → mixed W New Old t h ≡ Old t h
unfolding updated
mixed-out W New Old t h e = ap (λ (b : Bool). cond b (New t h) (Old t h)) e

-- more rows
pub mixed-more : (W U W' : Set) (New New' Old R : Rel) (t h : ℕ) → W' t ≡ W t || U t → (U t ≡ true → W t ≡ false) → R t h ≡ mixed W New Old t h
    → (W t ≡ false → New' t h ≡ New t h) → mixed U New' R t h ≡ mixed W' New Old t h
unfolding updated
mixed-more W U W' New New' Old R t h join apart was new =
    go (W t) (U t) refl refl ∙ sym (ap (λ (b : Bool). cond b (New t h) (Old t h)) join)
  where
    go : (w v : Bool) → W t ≡ w → U t ≡ v → cond (U t) (New' t h) (R t h) ≡ cond (W t || U t) (New t h) (Old t h)
    go true true e f = absurd (clash e (apart f))
    go false true e f = ap₂ (λ (a b : Bool). cond b (New' t h) (R t h)) e f ∙ new e ∙ sym (ap₂ (λ (a b : Bool). cond (a || b) (New t h) (Old t h)) e f)
    go true false e f =
        ap (λ (b : Bool). cond b (New' t h) (R t h)) f ∙ was ∙ ap (λ (b : Bool). cond b (New t h) (Old t h)) e
        ∙ sym (ap₂ (λ (a b : Bool). cond (a || b) (New t h) (Old t h)) e f)
    go false false e f =
        ap (λ (b : Bool). cond b (New' t h) (R t h)) f ∙ was ∙ ap (λ (b : Bool). cond b (New t h) (Old t h)) e
        ∙ sym (ap₂ (λ (a b : Bool). cond (a || b) (New t h) (Old t h)) e f)

-- W' is W and, apart from it, U
pub record Enlarged (W U W' : Set) : Type 0 where
  pub join : (t : ℕ) → t < 256 → W' t ≡ W t || U t
  pub apart : (t : ℕ) → t < 256 → U t ≡ true → W t ≡ false

-- the list of the sets of New at W, and of Old elsewhere
pub record Rewritten (W : Set) (New Old : Rel) (g : List ℕ) : Type 0 where
  pub is : g ≡ sets_of 256 (mixed W New Old)

pub rewritten-long : {W : Set} {New Old : Rel} {g : List ℕ} → Rewritten W New Old g → length g ≡ 1024
rewritten-long {W} {New} {Old} was = sets-long 256 (mixed W New Old) was.is

pub rewritten-more : {W U W' : Set} {New Old : Rel} {g g' : List ℕ} (New' : Rel) → Enlarged W U W' → Rewritten W New Old g
    → ((t h : ℕ) → t < 256 → h < 256 → W t ≡ false → New' t h ≡ New t h) → g' ≡ sets_of 256 (mixed U New' (set_at g)) → Rewritten W' New Old g'
rewritten-more {W} {U} {W'} {New} {Old} {g} New' enlarged was new e = record {
  is = e ∙ sets-cong 256 _ _ (λ t h ht hh.
      mixed-more W U W' New New' Old (set_at g) t h (enlarged.join t ht) (enlarged.apart t ht) (sets-in 256 (mixed W New Old) was.is t h ht hh) (new t h ht hh));
}

-- a row outside W is as it was
pub rewritten-old : {W : Set} {New Old : Rel} {g : List ℕ} → Rewritten W New Old g → (t h : ℕ) → t < 256 → h < 256 → W t ≡ false → set_at g t h ≡ Old t h
rewritten-old {W} {New} {Old} was t h ht hh e = sets-in 256 (mixed W New Old) was.is t h ht hh ∙ mixed-out W New Old t h e

pub rewritten-none : (W : Set) (New : Rel) (g : List ℕ) → length g ≡ 1024 → ((j : ℕ) → get_or g j 0 < 2 ^ 64) → ((t : ℕ) → t < 256 → W t ≡ false)
    → Rewritten W New (set_at g) g
rewritten-none W New g long words off = record {
  is = sets-ext 256 g long words ∙ sets-cong 256 _ _ (λ t h ht hh. sym (mixed-out W New (set_at g) t h (off t ht)));
}

pub rewritten-done : {W : Set} {New Old : Rel} {g : List ℕ} (W' : Set) → ((t : ℕ) → t < 256 → W t ≡ W' t) → Rewritten W New Old g
    → g ≡ sets_of 256 (mixed W' New Old)
unfolding updated
rewritten-done {W} {New} {Old} W' same was = was.is ∙ sets-cong 256 _ _ (λ t h ht hh. ap (λ (b : Bool). cond b (New t h) (Old t h)) (same t ht))

-- ---- one set

pub written : (p : ℕ) (g a : List ℕ) (New : Rel) {g' : List ℕ} → length g ≡ 1024
    → g' ≡ row_of (length g) (λ x. cond (eqb (x / 256) p) (in_row a (x % 256)) (in_row g x))
    → ((h : ℕ) → h < 256 → in_row a h ≡ New p h) → g' ≡ sets_of 256 (mixed (λ t. eqb t p) New (set_at g))
unfolding updated
written p g a New long e new = put-sets 256 p (in_row a) g long e ∙ sets-cong 256 _ _ at
  where
    at : (t h : ℕ) → t < 256 → h < 256 → cond (eqb t p) (in_row a h) (set_at g t h) ≡ cond (eqb t p) (New t h) (set_at g t h)
    at t h ht hh = ⊎_elim
        (λ (e : eqb t p ≡ true). ap (λ (b : Bool). cond b (in_row a h) (set_at g t h)) e ∙ new h hh ∙ ap (λ (i : ℕ). New i h) (sym (eqb-true t p e))
        ∙ sym (ap (λ (b : Bool). cond b (New t h) (set_at g t h)) e))
        (λ (e : eqb t p ≡ false). ap (λ (b : Bool). cond b (in_row a h) (set_at g t h)) e ∙ sym (ap (λ (b : Bool). cond b (New t h) (set_at g t h)) e))
        (either (eqb t p))

-- nothing is written: set p is the new one
pub unwritten : (p : ℕ) (g : List ℕ) (New : Rel) → length g ≡ 1024 → ((j : ℕ) → get_or g j 0 < 2 ^ 64) → ((h : ℕ) → h < 256 → New p h ≡ set_at g p h)
    → g ≡ sets_of 256 (mixed (λ t. eqb t p) New (set_at g))
unfolding updated
unwritten p g New long words new = sets-ext 256 g long words ∙ sets-cong 256 _ _ at
  where
    at : (t h : ℕ) → t < 256 → h < 256 → set_at g t h ≡ cond (eqb t p) (New t h) (set_at g t h)
    at t h ht hh = ⊎_elim
        (λ (e : eqb t p ≡ true). let same = eqb-true t p e in
        ap (λ (i : ℕ). set_at g i h) same ∙ sym (new h hh) ∙ ap (λ (i : ℕ). New i h) (sym same) ∙ sym (ap (λ (b : Bool). cond b (New t h) (set_at g t h)) e))
        (λ (e : eqb t p ≡ false). sym (ap (λ (b : Bool). cond b (New t h) (set_at g t h)) e))
        (either (eqb t p))

-- ---- the states of a word, the lowest first

-- the states of word c that `word` has and `left` has not
abbrev pub passed : ℕ → ℕ → ℕ → Set
passed c word left t = window c word t && not (window c left t)

pub passed_none : (c word t : ℕ) → passed c word word t ≡ false
passed_none c word t = and-not_self (window c word t)

pub passed-all : (c word left t : ℕ) → left ≡ 0 → passed c word left t ≡ window c word t
unfolding window
passed-all c word left t e =
    ap (λ (b : Bool). window c word t && not b) (off (eqb (t / 64) c)) ∙ and-true (window c word t)
  where
    off : (b : Bool) → cond b (bit left (t % 64)) false ≡ false
    off true = ap (λ (x : ℕ). bit x (t % 64)) e ∙ bit-of-zero (t % 64)
    off false = refl

-- bits leave without a walk: what is passed then
pub passed-drop : (c word left x t : ℕ) → left < 2 ^ 64 → x < 2 ^ 64
    → passed c word (bit_and left ((2 ^ 64 - 1) - x)) t ≡ passed c word left t || (window c word t && window c x t)
unfolding window
passed-drop c word left x t hl hx =
    ap (λ (b : Bool). window c word t && not (cond (eqb (t / 64) c) b false)) (minus-bitwise.bits left x (t % 64) hl hx (mod-lt t (omega arith)))
    ∙ cases (eqb (t / 64) c) (bit word (t % 64)) (bit left (t % 64)) (bit x (t % 64))
  where
    cases : (i w l b : Bool)
        → cond i w false && not (cond i (l && not b) false) ≡ (cond i w false && not (cond i l false)) || (cond i w false && cond i b false)
    cases false w l b = refl
    cases true false l b = refl
    cases true true false b = refl
    cases true true true true = refl
    cases true true true false = refl

-- the states of a set's word c are in the set
pub window-in : (row : List ℕ) (c t : ℕ) → window c (get_or row c 0) t ≡ true → in_row row t ≡ true
unfolding window in_row
window-in row c t e = ⊎_elim
    (λ (h : eqb (t / 64) c ≡ true). ap (λ (i : ℕ). bit (get_or row i 0) (t % 64)) (eqb-true (t / 64) c h)
    ∙ sym (ap (λ (b : Bool). cond b (bit (get_or row c 0) (t % 64)) false) h) ∙ e)
    (λ (h : eqb (t / 64) c ≡ false). absurd (clash e (ap (λ (b : Bool). cond b (bit (get_or row c 0) (t % 64)) false) h))) (either (eqb (t / 64) c))

module _ (word left : ℕ) (part : Part word left) (ne : left ≡ 0 → ⊥) where
  abbrev low : ℕ
  low = count_trailing_zeros 64 left

  abbrev less : ℕ
  less = bit_and left (left - 1)

  -- what is passed then: the state of the lowest bit too
  pub passed-more : (c : ℕ) → Enlarged (passed c word left) (λ t. eqb t (64 * c + low)) (passed c word less)
  unfolding window
  passed-more c = record { join = join; apart = apart }
    where
      below : low < 64
      below = low-lt word left part ne

      same : (t : ℕ) → eqb t (64 * c + low) ≡ eqb (t / 64) c && eqb (t % 64) low
      same t = bool_iff
          (λ e. let k : t ≡ 64 * c + low = eqb-true t (64 * c + low) e in
          ap₂ ◌&&◌ (eq-eqb (t / 64) c (omega (arith, k, below))) (eq-eqb (t % 64) low (omega (arith, k, below))))
          (λ e. let k = eqb-true (t / 64) c (and-fst (eqb (t / 64) c) (eqb (t % 64) low) e) in
          let m = eqb-true (t % 64) low (and-snd (eqb (t / 64) c) (eqb (t % 64) low) e) in
          eq-eqb t (64 * c + low) (omega (arith, k, m)))

      -- by the tests: of the word's number, of its bit, of the bit of what is left, and whether that bit is the lowest
      cases : (i w l e : Bool) → (l ≡ true → w ≡ true) → (e ≡ true → l ≡ true)
          → cond i w false && not (cond i (l && not e) false) ≡ (cond i w false && not (cond i l false)) || (i && e)
      cases false w l e s m = refl
      cases true true true true s m = refl
      cases true true true false s m = refl
      cases true true false true s m = absurd (true≢false (sym (m refl)))
      cases true true false false s m = refl
      cases true false true e s m = absurd (true≢false (sym (s refl)))
      cases true false false true s m = absurd (true≢false (sym (m refl)))
      cases true false false false s m = refl

      is-low : (j : ℕ) → eqb j low ≡ true → bit left j ≡ true
      is-low j e = ap (bit left) (eqb-true j low e) ∙ low-in word left part ne

      join : (t : ℕ) → t < 256 → passed c word less t ≡ passed c word left t || eqb t (64 * c + low)
      join t ht =
          ap (λ (b : Bool). window c word t && not (cond (eqb (t / 64) c) b false)) (drop-lowest left part.small ne (t % 64))
          ∙ cases (eqb (t / 64) c) (bit word (t % 64)) (bit left (t % 64)) (eqb (t % 64) low) (part.within (t % 64) (mod-lt t (omega arith))) (is-low (t % 64))
          ∙ ap (λ (b : Bool). passed c word left t || b) (sym (same t))

      apart : (t : ℕ) → t < 256 → eqb t (64 * c + low) ≡ true → passed c word left t ≡ false
      apart t ht e =
          let both = sym (same t) ∙ e in
          none (eqb (t / 64) c) (bit word (t % 64)) (bit left (t % 64)) (and-fst _ (eqb (t % 64) low) both) (is-low (t % 64) (and-snd (eqb (t / 64) c) _ both))
        where
          none : (i w l : Bool) → i ≡ true → l ≡ true → cond i w false && not (cond i l false) ≡ false
          none true true true e m = refl
          none true false l e m = refl
          none true true false e m = absurd (true≢false (sym m))
          none false w l e m = absurd (true≢false (sym e))

-- ---- the states of a set, a word at a time

-- the states of the first c words
abbrev pub upto : List ℕ → ℕ → Set
upto rows c t = ltb (t / 64) c && in_row rows t

pub upto-out : (rows : List ℕ) (c t : ℕ) → c ≤ t / 64 → upto rows c t ≡ false
upto-out rows c t l = ap (λ (b : Bool). b && in_row rows t) (le-ltb (t / 64) c l)

pub upto-none : (rows : List ℕ) (c t : ℕ) → c ≡ 0 → upto rows c t ≡ false
upto-none rows c t e = ap (λ (b : Bool). b && in_row rows t) (le-ltb (t / 64) c (omega (arith, e)))

pub upto_all : (rows : List ℕ) (c t : ℕ) → 4 ≤ c → t < 256 → upto rows c t ≡ in_row rows t
upto_all rows c t e h = ap (λ (b : Bool). b && in_row rows t) (lt-ltb (t / 64) c (omega (arith, e, h)))

pub upto-more : (rows : List ℕ) (c : ℕ) → Enlarged (upto rows c) (window c (get_or rows c 0)) (upto rows (c + 1))
unfolding window in_row
upto-more rows c = record { join = join; apart = apart }
  where
    join : (t : ℕ) → t < 256 → upto rows (c + 1) t ≡ upto rows c t || window c (get_or rows c 0) t
    join t ht = ⊎_elim
        (λ (e : eqb (t / 64) c ≡ true).
        let k = eqb-true (t / 64) c e in
        ap (λ (b : Bool). b && in_row rows t) (lt-ltb (t / 64) (c + 1) (omega (arith, k)))
        ∙ ap (λ (i : ℕ). bit (get_or rows i 0) (t % 64)) k
        ∙ sym (ap₂ (λ (a b : Bool). (a && in_row rows t) || cond b (bit (get_or rows c 0) (t % 64)) false) (le-ltb (t / 64) c (omega (arith, k))) e))
        (λ (e : eqb (t / 64) c ≡ false).
        ⊎_elim
        (λ (l : t / 64 < c). ap (λ (b : Bool). b && in_row rows t) (lt-ltb (t / 64) (c + 1) (omega (arith, l)))
        ∙ sym (or-false (in_row rows t))
        ∙ sym (ap₂ (λ (a b : Bool). (a && in_row rows t) || cond b (bit (get_or rows c 0) (t % 64)) false) (lt-ltb (t / 64) c l) e))
        (λ (l : c ≤ t / 64).
        let far : c + 1 ≤ t / 64 = beyond (t / 64) e l in
        ap (λ (b : Bool). b && in_row rows t) (le-ltb (t / 64) (c + 1) far)
        ∙ sym (ap₂ (λ (a b : Bool). (a && in_row rows t) || cond b (bit (get_or rows c 0) (t % 64)) false) (le-ltb (t / 64) c l) e))
        (lt-or-ge (t / 64) c))
        (either (eqb (t / 64) c))
      where
        beyond : (i : ℕ) → eqb i c ≡ false → c ≤ i → c + 1 ≤ i
        beyond i e l = ⊎_elim (λ (m : c < i). omega (arith, m)) (λ (m : i ≤ c). absurd (clash (eq-eqb i c (omega (arith, l, m))) e)) (lt-or-ge c i)

    apart : (t : ℕ) → t < 256 → window c (get_or rows c 0) t ≡ true → upto rows c t ≡ false
    apart t ht e = ap (λ (b : Bool). b && in_row rows t) (le-ltb (t / 64) c (omega (arith, eqb-true (t / 64) c (here (eqb (t / 64) c) e))))
      where
        here : (b : Bool) → cond b (bit (get_or rows c 0) (t % 64)) false ≡ true → b ≡ true
        here true e = refl
        here false e = e
