-- The parts of an encoding: its header, its label records, and the records of its states and transitions. They are read back as they were
-- written, and an encoding is its parts one after the other.
use Prim.Native.Nat.{ℕ, suc, ◌+◌, ◌*◌, ◌-◌, ◌/◌, ◌%◌, ◌≤◌, ◌<◌}
use native.Mathlib.Omega.{arith}
use mathlib.Core.Path.{◌≡◌, refl, sym, ap, ap₂, ◌∙◌}
use mathlib.Core.Bool.{Bool, true, false, cond}
use mathlib.Core.List.{List, [], ◌∷◌, ◌++◌}
use borrow.Author.Tests.{le-leb, lt-leb, leb-true, leb-false}
use lib.Dec.{leb}
use lib.ListN.{length, get_or, take, drop, length-drop, take-append-drop}
use lib.Seq.{length-take-le, get_or-take, get_or-drop, take-add, ext_get_or}
use Rattle.lts.specs.Bounded.{list_below}
use Rattle.lts.proofs.Below.{list_ext, get_or-list_below}
use Rattle.encoding.specs.declared.Header.{Header}
use Rattle.encoding.specs.Records.{IsBytes, number_at, two, header_of, header_bytes, labels_length, state_at, label_records, system_records, label_record, label_record_at}
use Rattle.encoding.specs.Labels.{labels_in, labels_bytes, Labelling, records_of}
use Rattle.encoding.specs.Checked.{Sized}
use Rattle.encoding.proofs.Sizes.{labels-none, labels-all}
use Rattle.encoding.proofs.Labels.{named-label, labels_length_lem, labels_at}
use Rattle.encoding.proofs.Bytes.{label-sixteen, bytes-length, bytes-at}

-- ## The header
pub header-length : (h : Header) → length (header_bytes h) ≡ 6
unfolding header_bytes two
header-length h = refl

pub back : (x : ℕ) → x < 65536 → x % 256 + 256 * (x / 256 % 256) ≡ x
back x l = omega arith

-- the first number: the count of states and the kind
count-back : (n : ℕ) (b : Bool) → n < 32768 → (n + cond b 32768 0) % 32768 ≡ n
count-back n true l = omega arith
count-back n false l = omega arith

kind-back : (n : ℕ) (b : Bool) → n < 32768 → leb 32768 (n + cond b 32768 0) ≡ b
kind-back n true l = le-leb 32768 (n + 32768) (omega arith)
kind-back n false l = lt-leb 32768 (n + 0) (omega arith)

first_small : (n : ℕ) (b : Bool) → n < 32768 → n + cond b 32768 0 < 65536
first_small n true l = omega arith
first_small n false l = omega arith

pub header-back : (h : Header) (l : List ℕ) → h.states < 32768 → h.actions < 65536 → h.transitions < 65536 → header_of (header_bytes h ++ l) ≡ h
unfolding header_of header_bytes number_at two
header-back h l a b c =
    rw (back (h.states + cond h.named 32768 0) (first_small h.states h.named a), back h.actions b, back h.transitions c)
    (λ i. record {
      states = count-back h.states h.named a i;
      actions = h.actions;
      transitions = h.transitions;
      named = kind-back h.states h.named a i;
    })

-- the header of a sequence of bytes is its first six
two_bytes : (a b : ℕ) → a < 256 → b < 256 → two (a + 256 * b) ≡ a ∷ b ∷ []
unfolding two
two_bytes a b l k =
    let low : (a + 256 * b) % 256 ≡ a = omega arith in
    let whole : (a + 256 * b) / 256 ≡ b = omega arith in
    let high : (a + 256 * b) / 256 % 256 ≡ b = rw whole (omega arith) in
    ap₂ (λ (x y : ℕ). x ∷ y ∷ []) low high

first-whole : (x : ℕ) → x < 65536 → x % 32768 + cond (leb 32768 x) 32768 0 ≡ x
first-whole x l = go (leb 32768 x) refl
  where
    go : (b : Bool) → leb 32768 x ≡ b → x % 32768 + cond b 32768 0 ≡ x
    go true e = let k = leb-true 32768 x e in omega arith
    go false e = let k = leb-false 32768 x e in omega arith

pub header-own : (s : List ℕ) → 6 ≤ length s → IsBytes s → header_bytes (header_of s) ≡ take 6 s
unfolding header_bytes header_of number_at list_below
header-own s long small =
    let b : (i : ℕ) → i < 6 → get_or s i 0 < 256 = λ i l. small i (omega (arith, l, long)) in
    let b₀ = b 0 (omega arith) in
    let b₁ = b 1 (omega arith) in
    let first = first-whole (number_at s 0) (omega (arith, b₀, b₁)) in
    let front = list_ext 6 (λ i. get_or s i 0) (take 6 s) (length-take-le 6 s long) (λ i l. get_or-take 6 s i 0 l) in
    rw (
      first,
      two_bytes (get_or s 0 0) (get_or s 1 0) b₀ b₁,
      two_bytes (get_or s 2 0) (get_or s 3 0) (b 2 (omega arith)) (b 3 (omega arith)),
      two_bytes (get_or s 4 0) (get_or s 5 0) (b 4 (omega arith)) (b 5 (omega arith)),
      front,
    )

-- ## The label records are those of the labels
module _ (s : List ℕ) (h : Header) where
  pub labels_from : (i : ℕ) → i < labels_length h → get_or (label_records s h) i 0 ≡ get_or s (6 + i) 0
  unfolding label_records
  labels_from i l = get_or-take (labels_length h) (drop 6 s) i 0 l ∙ get_or-drop 6 s i 0

  -- byte d of label record q, from 0
  label-read : h.named ≡ true → (q d : ℕ) → q < h.actions → d < 16 → get_or (get_or (labels_in s h) q []) d 0 ≡ get_or s (6 + (16 * q + d)) 0
  unfolding label_record label_record_at
  label-read n q d l u =
      let at : 6 + 16 * (suc q - 1) + d ≡ 6 + (16 * q + d) = omega arith in
      rw (labels_at s h q l, named-label s h (suc q) n) (get_or-list_below 0 16 (λ i. get_or s (6 + 16 * (suc q - 1) + i) 0) d u ∙ ap (λ (i : ℕ). get_or s i 0) at)

  pub labels-bytes : length (labels_bytes (labels_in s h)) ≡ 16 * h.actions
  labels-bytes = bytes-length (labels_in s h) (label-sixteen s h) ∙ ap (λ (m : ℕ). 16 * m) (labels_length_lem s h)

  module _ (sized : Sized s h) where
    pub labels-size : length (label_records s h) ≡ labels_length h
    unfolding label_records
    labels-size =
        let long = sized.long in
        length-take-le (labels_length h) (drop 6 s) (omega (arith, long, length-drop 6 s))

    named-records : h.named ≡ true → labels_bytes (labels_in s h) ≡ label_records s h
    named-records n =
        let long : length (labels_bytes (labels_in s h)) ≡ labels_length h = labels-bytes ∙ sym (labels-all h n) in
        ext_get_or 0 (labels_bytes (labels_in s h)) (label_records s h) (long ∙ sym labels-size) (λ i l.
        let q : ℕ = i / 16 in
        let d : ℕ = i % 16 in
        let at : 16 * q + d ≡ i = omega arith in
        let all = labels-all h n in
        let inside : q < h.actions = omega (arith, l, long, all) in
        let small : d < 16 = omega arith in
        ap (λ (j : ℕ). get_or (labels_bytes (labels_in s h)) j 0) (sym at)
        ∙ bytes-at (labels_in s h) (label-sixteen s h) q d (omega (arith, inside, labels_length_lem s h)) small ∙ label-read n q d inside small
        ∙ ap (λ (j : ℕ). get_or s (6 + j) 0) at ∙ sym (labels_from i (omega (arith, l, long))))

    -- the kind and the labels by this header
    abbrev own : Labelling
    own = record { named = h.named; labels = labels_in s h }

    pub own-records : records_of own ≡ label_records s h
    unfolding records_of label_records
    own-records = go h.named refl
      where
        go : (b : Bool) → h.named ≡ b → cond b (labels_bytes (labels_in s h)) [] ≡ take (labels_length h) (drop 6 s)
        go true n = named-records n
        go false n = rw (labels-none h n)

    -- ## An encoding is its parts
    pub parts-own : h ≡ header_of s → IsBytes s → header_bytes h ++ records_of own ++ system_records s h ≡ s
    unfolding label_records system_records
    parts-own e small =
        let long = sized.long in
        let at : state_at h 0 ≡ 6 + labels_length h = omega arith in
        let front : header_bytes h ≡ take 6 s = ap header_bytes e ∙ header-own s (omega (arith, long)) small in
        rw (front, own-records, at, ← take-add 6 (labels_length h) s) (take-append-drop (6 + labels_length h) s)
