-- Laws of a walk over the bits of a word that joins a set or a word for each. Assumes nothing.
use mathlib.Core.Path.{◌≡◌, sym, ap, ap₂, ◌∙◌, subst}
use mathlib.Core.Bool.{Bool, ◌&&◌, ◌||◌, or-false, or_assoc}
use mathlib.Core.List.{List}
use Prim.Native.Nat.{ℕ, zero, suc, ◌+◌, ◌-◌, ◌^◌, ◌<◌}
use native.Mathlib.Nat.{add-zero, add-suc}
use lib.Bits.{bit_and, bit_or, or_lt}
use lib.Count.{count_trailing_zeros}
use lib.ListN.{length, get_or}
use Rattle.lts.specs.Bounded.{any_below}
use Rattle.lts.specs.System.{Set}
use Rattle.lts.proofs.Below.{any-more, any-shorter}
use Rattle.rows.specs.Rows.{bit, in_row, row_of, word_of}
use Rattle.rows.proofs.Bits.{bit-or, bit-word_of, word_of-lt, word-ext}
use Rattle.rows.proofs.Rows.{in_row-of, row_of-cong, row-ext}
use Rattle.sets.proofs.Walks.{Rest, Stepped, rest-begin, rest-next, rest_end}

-- a test below a sum: below the first number, or from there on
pub any-add : (a b : ℕ) (f : ℕ → Bool) → any_below (a + b) f ≡ any_below a f || any_below b (λ i. f (a + i))
unfolding any_below
any-add a zero f = ap (λ (k : ℕ). any_below k f) (add-zero a) ∙ sym (or-false (any_below a f))
any-add a (suc b) f = ap (λ (k : ℕ). any_below k f) (add-suc a b) ∙ ap (λ (x : Bool). x || f (a + b)) (any-add a b f)
    ∙ or_assoc (any_below a f) (any_below b (λ i. f (a + i))) (f (a + b))

-- one bit of the word more: what is joined to it, at one place
module _ (w : ℕ) (from : Bool) (d : Set) where
  one_more : {i left t : ℕ} → Stepped w i left t
      → (from || any_below i (λ j. bit w j && d j)) || d t ≡ from || any_below (t + 1) (λ j. bit w j && d j)
  one_more {i} {left} {t} s =
      or_assoc from (any_below i (λ j. bit w j && d j)) (d t)
      ∙ ap (λ (b : Bool). from || b)
      (ap₂ ◌||◌ (sym (any-shorter i t (λ j. bit w j && d j) s.above (λ j l m. ap (λ (b : Bool). b && d j) (s.none j l m))))
      (sym (ap (λ (b : Bool). b && d t) s.member))
      ∙ sym (any-more (λ j. bit w j && d j) t))

  no_more : {i left : ℕ} → Rest w i left → left ≡ 0 → from || any_below i (λ j. bit w j && d j) ≡ from || any_below 64 (λ j. bit w j && d j)
  no_more {i} {left} rest z = ap (λ (b : Bool). from || b)
      (sym (any-shorter i 64 (λ j. bit w j && d j) rest.place (λ j l m. ap (λ (b : Bool). b && d j) (rest_end w i left rest z j l m))))

-- ---- the sets D j of the bits j of w, joined to a set

module _ (w : ℕ) (from : List ℕ) (D : ℕ → Set) where
  abbrev pub joined : ℕ → List ℕ
  joined i = row_of 4 (λ x. in_row from x || any_below i (λ j. bit w j && D j x))

  abbrev pub Joining : ℕ → List ℕ → Type 0
  Joining left out = (i : ℕ) × Rest w i left × (out ≡ joined i)

  pub join-begin : length from ≡ 4 → ((j : ℕ) → get_or from j 0 < 2 ^ 64) → w < 2 ^ 64 → Joining w from
  unfolding any_below
  join-begin long words h = (0, rest-begin w h, row-ext 4 _ from long words (λ q l. sym (or-false (in_row from q))))

  -- from the row of a set
  pub join-row : (S : Set) → from ≡ row_of 4 S → w < 2 ^ 64 → Joining w from
  unfolding any_below
  join-row S was h = (0, rest-begin w h, was ∙ row_of-cong 4 _ _ (λ q l. sym (or-false (in_row from q) ∙ ap (λ (r : List ℕ). in_row r q) was ∙ in_row-of 4 S q l)))

  pub join_more : {left : ℕ} {out part next : List ℕ} → Joining left out → (left ≡ 0 → ⊥) → part ≡ row_of 4 (D (count_trailing_zeros 64 left))
      → next ≡ row_of 4 (λ x. in_row out x || in_row part x) → Joining (bit_and left (left - 1)) next
  join_more {left} {out} {part} (i, rest, now) ne here e =
      let s = rest-next w i left rest ne in
      let t = count_trailing_zeros 64 left in (
        t + 1,
        s.rest,
        e ∙ row_of-cong 4 _ _ (λ x h.
            ap₂ ◌||◌ (ap (λ (l : List ℕ). in_row l x) now ∙ in_row-of 4 _ x h) (ap (λ (l : List ℕ). in_row l x) here ∙ in_row-of 4 (D t) x h)
            ∙ one_more w (in_row from x) (λ j. D j x) s),
      )

  pub join-end : {left : ℕ} {out : List ℕ} → Joining left out → left ≡ 0 → out ≡ joined 64
  join-end {left} (i, rest, now) z = now ∙ row_of-cong 4 _ _ (λ x h. no_more w (in_row from x) (λ j. D j x) rest z)

-- ---- the words D j of the bits j of w, joined to a word

module _ (w from : ℕ) (D : ℕ → ℕ) where
  abbrev pub joined_words : ℕ → ℕ
  joined_words i = word_of 64 (λ x. bit from x || any_below i (λ j. bit w j && bit (D j) x))

  abbrev pub JoiningWords : ℕ → ℕ → Type 0
  JoiningWords left out = (i : ℕ) × Rest w i left × (out ≡ joined_words i)

  pub words-begin : from < 2 ^ 64 → w < 2 ^ 64 → JoiningWords w from
  unfolding any_below
  words-begin small h = (0, rest-begin w h, word-ext 64 _ small (λ x l. sym (or-false (bit from x))))

  pub words_more : {left out : ℕ} → JoiningWords left out → (left ≡ 0 → ⊥) → D (count_trailing_zeros 64 left) < 2 ^ 64
      → JoiningWords (bit_and left (left - 1)) (bit_or out (D (count_trailing_zeros 64 left)))
  words_more {left} {out} (i, rest, now) ne small =
      let s = rest-next w i left rest ne in
      let t = count_trailing_zeros 64 left in (
        t + 1,
        s.rest,
        word-ext 64 _ (or_lt 64 out (D t) (subst (λ (x : ℕ). x < 2 ^ 64) (sym now) (word_of-lt 64 _)) small) (λ x h.
            bit-or out (D t) x ∙ ap (λ (b : Bool). b || bit (D t) x) (ap (λ (l : ℕ). bit l x) now ∙ bit-word_of 64 _ x h)
            ∙ one_more w (bit from x) (λ j. bit (D j) x) s),
      )

  pub words-end : {left out : ℕ} → JoiningWords left out → left ≡ 0 → out ≡ joined_words 64
  words-end {left} (i, rest, now) z =
      now ∙ word-ext 64 _ (word_of-lt 64 _) (λ x h. bit-word_of 64 _ x h ∙ no_more w (bit from x) (λ j. bit (D j) x) rest z)
