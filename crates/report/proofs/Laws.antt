-- Laws of decimal numbers, and of text in a buffer.
use Prim.Native.Nat.{ℕ, zero, suc, ◌+◌, ◌-◌, ◌*◌, ◌/◌, ◌%◌, ◌^◌, ◌<◌, ◌≤◌, suc-le-suc}
use mathlib.Core.Path.{◌≡◌, refl, ◌∙◌}
use mathlib.Core.Bool.{Bool, true, false, cond}
use mathlib.Core.List.{List, [], ◌∷◌, ◌++◌, append_assoc, append-nil}
use native.Mathlib.Nat.{pow-suc, add-zero, zero-lt-suc, not-suc-le-zero, le_of_suc-le-suc}
use native.Mathlib.Numerals.{add-one}
use native.Mathlib.Omega.{arith}
use borrow.Author.Tests.{lt-ltb, le-ltb, ltb-true, ltb-false}
use lib.Dec.{ltb}
use lib.ListN.{length, get_or, take, drop, set, length-append, length-drop, take-append-drop, get_or-append}
use lib.Seq.{append_snoc, take-suc, drop-cons, set_at, length-take-le, take_at, drop_at, drop-drop}
use Rattle.report.specs.Decimal.{decimal_in, decimal, written}

-- either there is one digit, or there are more
one-or-more : {A : Type 0} (x : ℕ) → (x < 10 → A) → (10 ≤ x → A) → A
one-or-more {A} x f g = go (ltb x 10) refl
  where
    go : (b : Bool) → ltb x 10 ≡ b → A
    go true e = f (ltb-true x 10 e)
    go false e = g (ltb-false x 10 e)

-- asking for more digits than there are changes nothing
enough : (j k x : ℕ) → x < j → x < k → decimal_in j x ≡ decimal_in k x
unfolding decimal_in
enough zero k x h g = absurd (omega arith)
enough (suc j) zero x h g = absurd (omega arith)
enough (suc j) (suc k) x h g = one-or-more x (λ l. rw (lt-ltb x 10 l)) (λ l. rw (le-ltb x 10 l, enough j k (x / 10) (omega arith) (omega arith)))

pub decimal-one : (x : ℕ) → x < 10 → decimal x ≡ (48 + x) ∷ []
unfolding decimal decimal_in
decimal-one x h = let e : x % 10 ≡ x = omega arith in rw (lt-ltb x 10 h, e)

pub decimal-more : (x : ℕ) → 10 ≤ x → decimal x ≡ decimal (x / 10) ++ ((48 + x % 10) ∷ [])
unfolding decimal decimal_in
decimal-more x h = rw (le-ltb x 10 h, enough x (suc (x / 10)) (x / 10) (omega arith) (omega arith))

-- a number below 10 ^ k has at most k digits, and zero has one
pub decimal-length : (k x : ℕ) → x < 10 ^ suc k → length (decimal x) ≤ suc k
decimal-length zero x h = rw (decimal-one x h) (omega arith)
decimal-length (suc k) x h =
    one-or-more x (λ l. rw (decimal-one x l) (omega arith)) (λ l.
    let g : x < 10 ^ suc k * 10 = rw (pow-suc 10 (suc k)) at h in
    let r = decimal-length k (x / 10) (omega arith) in
    rw (decimal-more x l, length-append) (omega arith))

-- the number that digits show, after a: so no two numbers have the same digits
unfoldable pub shown : ℕ → List ℕ → ℕ
shown a [] = a
shown a (d ∷ ds) = shown (10 * a + (d - 48)) ds

shown-last : (a d : ℕ) (ds : List ℕ) → shown a (ds ++ (d ∷ [])) ≡ 10 * shown a ds + (d - 48)
unfolding shown
shown-last a d [] = refl
shown-last a d (e ∷ ds) = shown-last (10 * a + (e - 48)) d ds

shown-in : (k x : ℕ) → x < k → shown 0 (decimal_in k x) ≡ x
unfolding shown decimal_in
shown-in zero x h = absurd (omega arith)
shown-in (suc k) x h =
    one-or-more x (λ l. rw (lt-ltb x 10 l) (omega arith)) (λ l.
    rw (le-ltb x 10 l, shown-last 0 (48 + x % 10) (decimal_in k (x / 10)), shown-in k (x / 10) (omega arith)) (omega arith))

pub decimal-shown : (x : ℕ) → shown 0 (decimal x) ≡ x
unfolding decimal
decimal-shown x = shown-in (suc x) x (omega arith)

-- some digits, each a byte from 48 to 57
pub decimal-some : (x : ℕ) → 0 < length (decimal x)
decimal-some x = one-or-more x (λ l. rw (decimal-one x l) (omega arith)) (λ l. rw (decimal-more x l, length-append) (omega arith))

abbrev Digit : ℕ → Type 0
Digit d = (48 ≤ d) × (d ≤ 57)

last-digit : (ds : List ℕ) (d : ℕ) → ((i : ℕ) → i < length ds → Digit (get_or ds i 0)) → Digit d
    → (i : ℕ) → i < length (ds ++ (d ∷ [])) → Digit (get_or (ds ++ (d ∷ [])) i 0)
last-digit [] d f e zero l = e
last-digit [] d f e (suc i) l = absurd (omega arith)
last-digit (x ∷ ds) d f e zero l = f 0 (zero-lt-suc (length ds))
last-digit (x ∷ ds) d f e (suc i) l = last-digit ds d (λ j m. f (suc j) (suc-le-suc m)) e i (le_of_suc-le-suc l)

digit-in : (k x i : ℕ) → i < length (decimal_in k x) → Digit (get_or (decimal_in k x) i 0)
unfolding decimal_in
digit-in zero x i l = absurd (not-suc-le-zero l)
digit-in (suc k) x i l =
    last-digit (cond (ltb x 10) [] (decimal_in k (x / 10))) (48 + x % 10)
    (front (ltb x 10) (decimal_in k (x / 10)) (digit-in k (x / 10))) (omega arith, omega arith) i l
  where
    front : (b : Bool) (ds : List ℕ) → ((i : ℕ) → i < length ds → Digit (get_or ds i 0))
        → (i : ℕ) → i < length (cond b [] ds) → Digit (get_or (cond b [] ds) i 0)
    front true ds f i l = absurd (not-suc-le-zero l)
    front false ds f i l = f i l

pub decimal_digit : (x i : ℕ) → i < length (decimal x) → (48 ≤ get_or (decimal x) i 0) × (get_or (decimal x) i 0 ≤ 57)
unfolding decimal
decimal_digit x i l = digit-in (suc x) x i l

-- no leading zero
leads : (k x : ℕ) → x < k → 0 < x → 48 < get_or (decimal x) 0 0
leads zero x h g = absurd (omega arith)
leads (suc k) x h g =
    one-or-more x (λ l. rw (decimal-one x l) (omega arith)) (λ l.
    rw (decimal-more x l, get_or-append (decimal (x / 10)) ((48 + x % 10) ∷ []) 0 0 (decimal-some (x / 10))) (leads k (x / 10) (omega arith) (omega arith)))

pub decimal-leads : (x : ℕ) → 0 < x → 48 < get_or (decimal x) 0 0
decimal-leads x g = leads (suc x) x (omega arith) g

-- Text in a buffer: none, one byte more, more text.
pub written_none : (at : ℕ) (buffer : List ℕ) → written at [] buffer ≡ buffer
unfolding written
written_none at buffer = rw (add-zero, append-nil) (take-append-drop at buffer)

module _ (at : ℕ) (text buffer : List ℕ) where
  front_length : at ≤ length buffer → length (take at buffer ++ text) ≡ at + length text
  front_length h = length-append (take at buffer) text ∙ rw (length-take-le at buffer h)

  pub written-length : at + length text ≤ length buffer → length (written at text buffer) ≡ length buffer
  unfolding written
  written-length h = simp (length-append, length-drop) (omega (arith, length-take-le at buffer (omega arith)))

  pub written_byte : (b : ℕ) → at + length text < length buffer → set (written at text buffer) (at + length text) b ≡ written at (text ++ (b ∷ [])) buffer
  unfolding written
  written_byte b h =
      let e : at + (length text + 1) ≡ suc (at + length text) = omega arith in
      rw (drop-cons buffer (at + length text) 0 h, set_at (take at buffer ++ text) (get_or buffer (at + length text) 0) (drop (suc (at + length text)) buffer) b (at + length text) (front_length (omega arith)), length-append, e, ← append_assoc (take at buffer) text (b ∷ []), append_snoc)

  pub written-more : (more : List ℕ) → at + length text ≤ length buffer → written (at + length text) more (written at text buffer) ≡ written at (text ++ more) buffer
  unfolding written
  written-more more h =
      let n = at + length text in
      let e : at + (length text + length more) ≡ n + length more = omega arith in
      let l = front_length (omega arith) in
      rw (take_at (take at buffer ++ text) (drop n buffer) n l, ← drop-drop (length more) n (take at buffer ++ text ++ drop n buffer), drop_at (take at buffer ++ text) (drop n buffer) n l, drop-drop, length-append, e, ← append_assoc (take at buffer) text more)

-- a turn of the loop that copies text
pub written-copy : (at i : ℕ) (text buffer : List ℕ) → i < length text → at + i < length buffer → set (written at (take i text) buffer) (at + i) (get_or text i 0) ≡ written at (take (i + 1) text) buffer
written-copy at i text buffer h l =
    let e : length (take i text) ≡ i = length-take-le i text (omega arith) in
    rw (add-one, take-suc text i 0 h) (rw e at (written_byte at (take i text) buffer (get_or text i 0) (rw e l)))

-- a number of one digit written, and one digit more
pub digit-one : (at x : ℕ) (buffer : List ℕ) → x < 10 → at < length buffer → set buffer at (48 + x) ≡ written at (decimal x) buffer
digit-one at x buffer h l =
    rw (decimal-one x h) (rw (written_none, add-zero) at (written_byte at [] buffer (48 + x) (omega arith)))

pub digit-more : (at x next : ℕ) (buffer after : List ℕ) → 10 ≤ x → next < length buffer → next ≡ at + length (decimal (x / 10)) → after ≡ written at (decimal (x / 10)) buffer
    → set after next (48 + x % 10) ≡ written at (decimal x) buffer
digit-more at x next buffer after h l e w = rw (decimal-more x h, w, e) (written_byte at (decimal (x / 10)) buffer (48 + x % 10) (omega arith))
