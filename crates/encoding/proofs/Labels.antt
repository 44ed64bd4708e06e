-- Laws of labels and of their records.
use Prim.Native.Nat.{ℕ, zero, suc, ◌+◌, ◌*◌, ◌-◌, ◌≤◌, ◌<◌}
use mathlib.Core.Path.{◌≡◌, refl, sym, ap, ◌∙◌}
use mathlib.Core.Bool.{Bool, true, false, cond, not, ◌&&◌, and-true, and-false}
use mathlib.Core.List.{List, [], ◌++◌, append-nil, ◌∷◌}
use mathlib.Core.Logic.{⊎_elim, ◌↔◌}
use native.Mathlib.Nat.{add-zero}
use native.Mathlib.Numerals.{add-one}
use native.Mathlib.Omega.{arith}
use borrow.Author.Tests.{eqb-true, eqb-false, eq-eqb, ne_eqb}
use lib.Pointwise.{pointwise}
use lib.Dec.{T, leb, eqb, leb→le, le→leb, eqb→eq}
use lib.ListN.{length, get_or, drop, replicate}
use lib.ListN.{length-replicate, get_or-replicate, get_or-eq_default, get_or-append}
use lib.Seq.{get_or-append-add, get_or-drop, ext_get_or}
use Rattle.lts.specs.Bounded.{all_below, list_below, lowest}
use Rattle.lts.proofs.Bounded.{and-iff, or_elim, or_left, or_right, all-iff, eq→eqb}
use Rattle.lts.specs.Labels.{same_label}
use Rattle.lts.proofs.Below.{list_ext, lt-or-ge, length-list_below, get_or-list_below, lowest-le, lowest-at, lowest-before, bool_iff, T_true, true-T, all_of, all-at}
use Rattle.lts.proofs.Labels.{label-tests}
use Rattle.lts.proofs.Lists.{all-stop, all_done}
use Rattle.report.specs.Decimal.{decimal, written}
use Rattle.report.proofs.Laws.{written-length, decimal-length, decimal-some, decimal_digit, shown, decimal-shown}
use Rattle.encoding.specs.declared.Header.{Header}
use Rattle.encoding.specs.Records.{labels_length, label_at, label_record, label_record_at}
use Rattle.encoding.specs.Labels.{visible, follows, label_fits, padded, decimal_label, label_in, labels_in, IsLabel}
use Rattle.encoding.specs.Checked.{Sized}

-- ## Records: tested byte by byte

-- labels of 16 bytes are the same if they agree at each place
pub same_bytes : (y x : List ℕ) → length y ≡ 16 → length x ≡ 16 → all_below 16 (λ d. eqb (get_or y d 0) (get_or x d 0)) ≡ same_label y x
same_bytes y x hy hx = bool_iff to from
  where
    to : all_below 16 (λ d. eqb (get_or y d 0) (get_or x d 0)) ≡ true → same_label y x ≡ true
    to t =
        let e = list_ext 16 (λ d. get_or x d 0) y hy (λ d h. eqb-true _ _ (all-at 16 _ t d h)) ∙ sym (list_ext 16 (λ d. get_or x d 0) x hx (λ d h. refl)) in
        ap (λ (z : List ℕ). same_label z x) e ∙ T_true (same_label x x) (label-tests.whole x)

    from : same_label y x ≡ true → all_below 16 (λ d. eqb (get_or y d 0) (get_or x d 0)) ≡ true
    from t =
        let e = label-tests.sound y x (true-T (same_label y x) t) in
        all_of 16 _ (λ d h. eq-eqb _ _ (ap (λ (z : List ℕ). get_or z d 0) e))

-- the library's equality of two lists of bytes
pub same-pointwise : (x y : List ℕ) → pointwise eqb x y ≡ same_label x y
unfolding same_label
same-pointwise [] [] = refl
same-pointwise [] (y ∷ ys) = refl
same-pointwise (x ∷ xs) [] = refl
same-pointwise (x ∷ xs) (y ∷ ys) = ap (λ (b : Bool). eqb x y && b) (same-pointwise xs ys)

-- a text written into zeros
written-zeros : (n : ℕ) (text : List ℕ) → length text ≤ n → written 0 text (replicate n 0) ≡ list_below n (λ d. get_or text d 0)
unfolding written
written-zeros n text h =
    let long : length (replicate {A = ℕ} n 0) ≡ n = length-replicate {A = ℕ} n 0 in
    list_ext n (λ d. get_or text d 0) (written 0 text (replicate n 0)) (written-length 0 text (replicate n 0) (omega (arith, h, long)) ∙ long)
    (λ i l. ⊎_elim (λ (m : i < length text). get_or-append text _ 0 i m) (λ (m : length text ≤ i). late i l m) (lt-or-ge i (length text)))
  where
    late : (i : ℕ) → i < n → length text ≤ i → get_or (text ++ drop (0 + length text) (replicate n 0)) i 0 ≡ get_or text i 0
    late i l m =
        let at : i ≡ length text + (i - length text) = omega arith in
        ap (λ (j : ℕ). get_or (text ++ drop (0 + length text) (replicate n 0)) j 0) at ∙ get_or-append-add text _ (i - length text) 0
        ∙ get_or-drop (0 + length text) (replicate n 0) (i - length text) 0
        ∙ get_or-replicate n (0 + length text + (i - length text)) 0 0 (omega arith) ∙ sym (get_or-eq_default text 0 m)

pub padded-written : (text : List ℕ) → length text ≤ 16 → written 0 text (replicate 16 0) ≡ padded text
unfolding padded
padded-written text h = written-zeros 16 text h

-- the digits of an action
pub decimal-short : (a : ℕ) → a ≤ 64 → length (decimal a) ≤ 16
decimal-short a h = let l = decimal-length 1 a (omega arith) in omega (arith, l)

-- a label record lies inside its sheet
pub label_inside : (s : List ℕ) (h : Header) (a : ℕ) → Sized s h → h.named ≡ true → 1 ≤ a → a ≤ h.actions → label_at h a + 15 < length s
unfolding labels_length
label_inside s h a sized named low high =
    let e : labels_length h ≡ 16 * h.actions = rw named in
    omega (arith, e, low, high, sized.long)

-- ## Labels: their lengths and places

pub padded-length : (text : List ℕ) → length (padded text) ≡ 16
unfolding padded
padded-length text = length-list_below 16 (λ d. get_or text d 0)

pub label-length : (s : List ℕ) (h : Header) (a : ℕ) → length (label_in s h a) ≡ 16
unfolding label_in label_record label_record_at decimal_label
label-length s h a = go h.named
  where
    go : (b : Bool) → length (cond b (label_record s h a).bytes (decimal_label a)) ≡ 16
    go true = length-list_below 16 (λ d. get_or s (label_at h a + d) 0)
    go false = padded-length (decimal a)

-- by the kind of the sheet
pub named-label : (s : List ℕ) (h : Header) (a : ℕ) → h.named ≡ true → label_in s h a ≡ (label_record s h a).bytes
unfolding label_in
named-label s h a e = rw e

pub plain_label : (s : List ℕ) (h : Header) (a : ℕ) → h.named ≡ false → label_in s h a ≡ decimal_label a
unfolding label_in
plain_label s h a e = rw e

pub labels_length_lem : (s : List ℕ) (h : Header) → length (labels_in s h) ≡ h.actions
unfolding labels_in
labels_length_lem s h = length-list_below h.actions _

pub labels_at : (s : List ℕ) (h : Header) (i : ℕ) → i < h.actions → get_or (labels_in s h) i [] ≡ label_in s h (suc i)
unfolding labels_in
labels_at s h i l = get_or-list_below [] h.actions (λ j. label_in s h (suc j)) i l

-- ## What a label is

visible-iff : (x : ℕ) → T (visible x) ↔ ((33 ≤ x) × (x ≤ 126))
unfolding visible
visible-iff x =
    let e = and-iff (leb 33 x) (leb x 126) in
    (λ t. (leb→le 33 x (e.0 t).0, leb→le x 126 (e.0 t).1), λ p. e.1 (le→leb 33 x p.0, le→leb x 126 p.1))

-- y is zero, or both are bytes of a name
follows-split : {P : Type 0} (x y : ℕ) → T (follows x y) → (y ≡ 0 → P) → (T (visible x) → T (visible y) → P) → P
unfolding follows
follows-split x y t f g =
    or_elim (eqb y 0) (visible x && visible y) (λ e. f (eqb→eq y 0 e)) (λ v. let p = (and-iff (visible x) (visible y)).0 v in g p.0 p.1) t

follows-zero : (x y : ℕ) → y ≡ 0 → T (follows x y)
unfolding follows
follows-zero x y e = or_left (eqb y 0) _ (eq→eqb y 0 e)

follows-visible : (x y : ℕ) → T (visible x) → T (visible y) → T (follows x y)
unfolding follows
follows-visible x y a b = or_right (eqb y 0) _ ((and-iff (visible x) (visible y)).1 (a, b))

module _ (x : List ℕ) where
  fits_iff : T (label_fits x) ↔ (T (visible (get_or x 0 0)) × ((d : ℕ) → d < 15 → T (follows (get_or x d 0) (get_or x (d + 1) 0))))
  unfolding label_fits
  fits_iff =
      let f : ℕ → Bool = λ d. follows (get_or x d 0) (get_or x (d + 1) 0) in
      let e = and-iff (visible (get_or x 0 0)) (all_below 15 f) in
      (λ t. ((e.0 t).0, (all-iff 15 f).0 (e.0 t).1), λ p. e.1 (p.0, (all-iff 15 f).1 p.1))

  -- the name's size: the place of the first zero
  abbrev is_zero : ℕ → Bool
  is_zero d = eqb (get_or x d 0) 0

  abbrev name_size : ℕ
  name_size = lowest 16 is_zero

  module _ (long : length x ≡ 16) (fits : T (label_fits x)) where
    name-byte : (d : ℕ) → d < name_size → T (visible (get_or x d 0))
    name-byte zero l = (fits_iff.0 fits).0
    name-byte (suc d) l =
        let some : get_or x (suc d) 0 ≡ 0 → ⊥ = eqb-false _ 0 (lowest-before 16 is_zero (suc d) l) in
        let inside : d < 15 = omega (arith, l, lowest-le 16 is_zero) in
        let f : T (follows (get_or x d 0) (get_or x (suc d) 0)) = rw add-one at ((fits_iff.0 fits).1 d inside) in
        follows-split (get_or x d 0) (get_or x (suc d) 0) f (λ z. absurd (some z)) (λ _ v. v)

    -- the n-th byte behind the first zero, and each byte from there on
    zero-after : (n : ℕ) → name_size + n < 16 → get_or x (name_size + n) 0 ≡ 0
    zero-after zero l = let m : name_size < 16 = omega (arith, l) in rw add-zero (eqb-true _ 0 (lowest-at 16 is_zero m))
    zero-after (suc n) l =
        let d : ℕ = name_size + n in
        let inside : d < 15 = omega (arith, l) in
        let here : get_or x d 0 ≡ 0 = zero-after n (omega (arith, l)) in
        let at : name_size + suc n ≡ d + 1 = omega arith in
        follows-split (get_or x d 0) (get_or x (d + 1) 0) ((fits_iff.0 fits).1 d inside) (λ z. rw at z)
        (λ v _. absurd (omega (arith, ((visible-iff (get_or x d 0)).0 v).0, here)))

    zero-byte : (d : ℕ) → name_size ≤ d → get_or x d 0 ≡ 0
    zero-byte d l =
        let at : name_size + (d - name_size) ≡ d = omega (arith, l) in
        ⊎_elim (λ (m : d < 16). ap (λ (j : ℕ). get_or x j 0) (sym at) ∙ zero-after (d - name_size) (omega (arith, at, m)))
        (λ (m : 16 ≤ d). get_or-eq_default x 0 (omega (arith, m, long))) (lt-or-ge d 16)

    name-some : 1 ≤ name_size
    name-some = ⊎_elim (λ (l : 0 < name_size). l)
        (λ (l : name_size ≤ 0). absurd (omega (arith, ((visible-iff (get_or x 0 0)).0 (fits_iff.0 fits).0).0, zero-byte 0 l))) (lt-or-ge 0 name_size)

    fits-label : IsLabel x
    fits-label = record {
      long = long;
      size = name_size;
      some = name-some;
      most = lowest-le 16 is_zero;
      name = λ d l. (visible-iff (get_or x d 0)).0 (name-byte d l);
      zeros = zero-byte;
    }

  label-fits : IsLabel x → T (label_fits x)
  label-fits is = fits_iff.1 (
    seen 0 is.some,
    λ d _.
        ⊎_elim (λ (l : d + 1 < is.size). follows-visible _ _ (seen d (omega (arith, l))) (seen (d + 1) l))
        (λ (l : is.size ≤ d + 1). follows-zero _ _ (is.zeros (d + 1) l)) (lt-or-ge (d + 1) is.size),
  )
    where
      seen : (d : ℕ) → d < is.size → T (visible (get_or x d 0))
      seen d l = (visible-iff (get_or x d 0)).1 (is.name d l)

-- the test says that the bytes are a label in the document's words
pub label-fits-iff : (x : List ℕ) → length x ≡ 16 → T (label_fits x) ↔ IsLabel x
label-fits-iff x long = (fits-label x long, label-fits x)

-- ## The labels of a plain sheet

padded-at : (text : List ℕ) (d : ℕ) → d < 16 → get_or (padded text) d 0 ≡ get_or text d 0
unfolding padded
padded-at text d l = get_or-list_below 0 16 (λ i. get_or text i 0) d l

pub decimal-label : (a : ℕ) → a ≤ 64 → IsLabel (decimal_label a)
unfolding decimal_label
decimal-label a h = record {
  long = padded-length (decimal a);
  size = length (decimal a);
  some = decimal-some a;
  most = short;
  name = λ d l. let e = padded-at (decimal a) d (omega (arith, l, short)) in let p = decimal_digit a d l in (omega (arith, e, p.0), omega (arith, e, p.1));
  zeros = λ d l.
      ⊎_elim (λ (m : d < 16). padded-at (decimal a) d m ∙ get_or-eq_default (decimal a) 0 l)
      (λ (m : 16 ≤ d). get_or-eq_default (padded (decimal a)) 0 (omega (arith, m, padded-length (decimal a)))) (lt-or-ge d 16);
}
  where
    short : length (decimal a) ≤ 16
    short = decimal-short a h

pub decimal-fits : (a : ℕ) → a ≤ 64 → label_fits (decimal_label a) ≡ true
decimal-fits a h = T_true _ (label-fits (decimal_label a) (decimal-label a h))

-- two numbers with the same label have the same digits
module _ (a b : ℕ) (h : a ≤ 64) (e : decimal_label a ≡ decimal_label b) where
  same-digit : (d : ℕ) → d < 16 → get_or (decimal a) d 0 ≡ get_or (decimal b) d 0
  unfolding decimal_label
  same-digit d l = sym (padded-at (decimal a) d l) ∙ ap (λ (t : List ℕ). get_or t d 0) e ∙ padded-at (decimal b) d l

  no_longer : length (decimal a) ≤ length (decimal b)
  no_longer = ⊎_elim (λ (l : length (decimal b) < length (decimal a)). absurd (longer l)) (λ l. l) (lt-or-ge (length (decimal b)) (length (decimal a)))
    where
      longer : length (decimal b) < length (decimal a) → ⊥
      longer l =
          let d : ℕ = length (decimal b) in
          let none-there : get_or (decimal b) d 0 ≡ 0 = get_or-eq_default (decimal b) 0 (omega arith) in
          omega (arith, (decimal_digit a d l).0, same-digit d (omega (arith, l, decimal-short a h)), none-there)

pub decimal-label-injective : (a b : ℕ) → a ≤ 64 → b ≤ 64 → decimal_label a ≡ decimal_label b → a ≡ b
decimal-label-injective a b h k e =
    let long : length (decimal a) ≡ length (decimal b) = omega (arith, no_longer a b h e, no_longer b a k (sym e)) in
    let short = decimal-short a h in
    let same : decimal a ≡ decimal b = ext_get_or 0 (decimal a) (decimal b) long (λ d l. same-digit a b h e d (omega (arith, l, short))) in
    sym (decimal-shown a) ∙ ap (shown 0) same ∙ decimal-shown b
