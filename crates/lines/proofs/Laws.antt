-- Text after text in a buffer, and the length of a line's parts.
use Prim.Native.Nat.{ℕ, ◌+◌, ◌<◌, ◌≤◌}
use mathlib.Core.Path.{◌≡◌, refl, sym, ◌∙◌}
use mathlib.Core.Bool.{true, false}
use mathlib.Core.List.{List, [], ◌++◌}
use native.Mathlib.Nat.{add-zero}
use native.Mathlib.Numerals.{add-one}
use native.Mathlib.Omega.{arith}
use lib.ListN.{length, get_or, length-append}
use Rattle.lts.specs.Bounded.{concat_below}
use Rattle.lts.specs.System.{Rel}
use Rattle.report.specs.Decimal.{decimal, written}
use Rattle.report.proofs.Laws.{decimal-length, written_none, written-more}
use Rattle.lines.specs.Lines.{related_text, blank, state_line, states_text}

-- `after` is `buffer` with text from `at` on, and `next` the place after it
pub record Put (at : ℕ) (text buffer after : List ℕ) (next : ℕ) : Type 0 where
  pub place : next ≡ at + length text
  pub bytes : after ≡ written at text buffer

-- no text, and text after text
pub put-none : (at : ℕ) (buffer : List ℕ) → Put at [] buffer buffer at
put-none at buffer = record { place = sym (add-zero at); bytes = sym (written_none at buffer) }

pub put-more : {at next last : ℕ} {text more buffer between after : List ℕ} → Put at text buffer between next → Put next more between after last → next ≤ length buffer → Put at (text ++ more) buffer after last
put-more {at} {next} {last} {text} {more} {buffer} {between} {after} f g h =
    let e = f.place in
    record { place = rw length-append (omega (arith, g.place)); bytes = g.bytes ∙ rw (f.bytes, e) (written-more at text buffer more (rw e at h)) }

-- the digits of a number below 10 ^ 5, and of one below 10 ^ 3
pub five-digits : (x : ℕ) → x < 100000 → length (decimal x) ≤ 5
five-digits x h = decimal-length 4 x h

pub three-digits : (x : ℕ) → x < 1000 → length (decimal x) ≤ 3
three-digits x h = decimal-length 2 x h

-- a state that p is related to, or not
pub related-yes : (R : Rel) (p q : ℕ) → R p q ≡ true → related_text R p q ≡ blank ++ decimal q
unfolding related_text
related-yes R p q e = rw e

pub related-no : (R : Rel) (p q : ℕ) → R p q ≡ false → related_text R p q ≡ []
unfolding related_text
related-no R p q e = rw e

-- the lists f 0 .. f (i - 1), one after the other: none, and one more
pub concat-none : (f : ℕ → List ℕ) → concat_below 0 f ≡ []
unfolding concat_below
concat-none f = refl

pub concat-more : (f : ℕ → List ℕ) (i : ℕ) → concat_below (i + 1) f ≡ concat_below i f ++ f i
unfolding concat_below
concat-more f i = rw (add-one i)

-- the lines of the states below p: none, one more, and all
unfoldable pub lines_to : ℕ → Rel → List ℕ → ℕ → List ℕ
lines_to n R representatives p = concat_below p (λ q. state_line n R (get_or representatives q 0) q)

pub lines_none : (n : ℕ) (R : Rel) (representatives : List ℕ) → lines_to n R representatives 0 ≡ []
unfolding lines_to
lines_none n R representatives = concat-none (λ q. state_line n R (get_or representatives q 0) q)

pub lines_more : (n : ℕ) (R : Rel) (representatives : List ℕ) (p : ℕ) → lines_to n R representatives (p + 1) ≡ lines_to n R representatives p ++ state_line n R (get_or representatives p 0) p
unfolding lines_to
lines_more n R representatives p = concat-more (λ q. state_line n R (get_or representatives q 0) q) p

pub lines-all : (n : ℕ) (R : Rel) (representatives : List ℕ) → lines_to n R representatives n ≡ states_text n R representatives
unfolding lines_to states_text
lines-all n R representatives = refl
