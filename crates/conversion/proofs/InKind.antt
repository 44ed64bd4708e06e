-- A sheet in the wanted kind: its parts, and that a plain sheet and its named one are twins.
use Prim.Native.Nat.{ℕ, suc, ◌+◌, ◌*◌, ◌-◌, ◌≤◌, ◌<◌}
use native.Mathlib.Omega.{arith}
use mathlib.Core.Path.{◌≡◌, refl, sym, ap, ◌∙◌}
use mathlib.Core.Bool.{Bool, true, false, cond}
use mathlib.Core.List.{List, [], ◌++◌, append_assoc}
use lib.ListN.{length, get_or, drop, length-append, length-drop, get_or-append}
use lib.Seq.{drop_at, get_or-append-add}
use Rattle.lts.proofs.Below.{list_ext, all-at, true-T}
use Rattle.lts.proofs.Labels.{label-tests}
use Rattle.encoding.specs.declared.Header.{Header}
use Rattle.encoding.specs.Records.{IsBytes, number_at, header_of, header_bytes, of_kind, labels_length, state_at, encoding_length, system_records, label_record, label_record_at}
use Rattle.encoding.specs.Labels.{decimal_label, label_in, labels_in, labels_of, labels_bytes, records_of}
use Rattle.encoding.specs.Checked.{Sized}
use Rattle.encoding.proofs.Sizes.{labels-none, labels-all}
use Rattle.encoding.proofs.Labels.{label-length, named-label, plain_label, labels_length_lem, labels_at}
use Rattle.encoding.proofs.Bytes.{label-sixteen, bytes-at}
use Rattle.encoding.proofs.Parts.{header-length, header-back, labels-bytes, parts-own}
use Rattle.encoding.proofs.Twins.{Twins}
use Rattle.conversion.specs.Conversion.{in_kind, named_in_decimal}

-- a number of two bytes
number_small : (s : List ℕ) (i : ℕ) → i + 1 < length s → IsBytes s → number_at s i < 65536
unfolding number_at
number_small s i l small = let a = small i (omega (arith, l)) in let b = small (i + 1) l in omega (arith, a, b)

-- ## What stands before the records of states and transitions: the header and the names
module _ (named : Bool) (s : List ℕ) (h : Header) where
  abbrev names : List ℕ
  names = records_of (record { named = named; labels = labels_in s h })

  abbrev pub front : List ℕ
  front = header_bytes (of_kind named h) ++ names

  names-length : length names ≡ labels_length (of_kind named h)
  unfolding records_of labels_length
  names-length = go named
    where
      go : (b : Bool) → length (cond b (labels_bytes (labels_in s h)) []) ≡ cond b (16 * h.actions) 0
      go true = labels-bytes s h
      go false = refl

  pub front_length : length front ≡ state_at (of_kind named h) 0
  front_length = omega (arith, length-append (header_bytes (of_kind named h)) names, header-length (of_kind named h), names-length)

-- ## The sheet in the wanted kind
module _ (named : Bool) (s : List ℕ) where
  abbrev h : Header
  h = header_of s

  pub kind-records : system_records (in_kind named s) (of_kind named h) ≡ system_records s h
  unfolding in_kind system_records
  kind-records = drop_at (front named s h) (drop (state_at h 0) s) (state_at (of_kind named h) 0) (front_length named s h)

  kind-size : length (in_kind named s) ≡ state_at (of_kind named h) 0 + length (system_records s h)
  unfolding in_kind
  kind-size = omega (arith, length-append (front named s h) (system_records s h), front_length named s h)

  pub kind-length : Sized s h → length (in_kind named s) ≡ encoding_length (of_kind named h)
  unfolding system_records
  kind-length sized = omega (arith, kind-size, length-drop (state_at h 0) s, sized.long)

  -- the header, of a sequence of bytes that has one
  module _ (long : 6 ≤ length s) (small : IsBytes s) where
    pub kind-header : header_of (in_kind named s) ≡ of_kind named h
    unfolding in_kind header_of
    kind-header =
        ap header_of (append_assoc (header_bytes (of_kind named h)) (names named s h) (system_records s h))
        ∙ header-back (of_kind named h) (names named s h ++ system_records s h) (omega arith) (number_small s 2 (omega (arith, long)) small)
        (number_small s 4 (omega (arith, long)) small)

-- a sheet of the wanted kind stays as it is
pub kind-own : (named : Bool) (s : List ℕ) → Sized s (header_of s) → IsBytes s → (header_of s).named ≡ named → in_kind named s ≡ s
unfolding in_kind
kind-own named s sized small e =
    ap (λ (b : Bool). header_bytes (of_kind b (header_of s)) ++ records_of (record { named = b; labels = labels_of s }) ++ system_records s (header_of s)) (sym e)
    ∙ parts-own s (header_of s) sized refl small

-- ## The names of the named sheet
module _ (s : List ℕ) where
  -- byte d of name i, from 0
  name-byte : (i d : ℕ) → i < (header_of s).actions → d < 16 → get_or (in_kind true s) (6 + (16 * i + d)) 0 ≡ get_or (label_in s (header_of s) (suc i)) d 0
  unfolding in_kind records_of
  name-byte i d l u =
      let h = header_of s in
      let head = header_bytes (of_kind true h) in
      let bytes = labels_bytes (labels_of s) in
      let six = header-length (of_kind true h) in
      let at : 6 + (16 * i + d) ≡ length head + (16 * i + d) = omega (arith, six) in
      get_or-append (head ++ bytes) (system_records s h) 0 (6 + (16 * i + d)) (omega (arith, l, u, length-append head bytes, six, labels-bytes s h))
      ∙ ap (λ (x : ℕ). get_or (head ++ bytes) x 0) at
      ∙ get_or-append-add head bytes (16 * i + d) 0
      ∙ bytes-at (labels_of s) (label-sixteen s h) i d (omega (arith, l, labels_length_lem s h)) u
      ∙ ap (λ (x : List ℕ). get_or x d 0) (labels_at s h i l)

  pub named-record : (g : Header) (a : ℕ) → 1 ≤ a → a ≤ (header_of s).actions → (label_record (in_kind true s) g a).bytes ≡ label_in s (header_of s) a
  unfolding label_record label_record_at
  named-record g a l u =
      let at : suc (a - 1) ≡ a = omega arith in
      sym (list_ext 16 (λ d. get_or (in_kind true s) (6 + 16 * (a - 1) + d) 0) (label_in s (header_of s) a) (label-length s (header_of s) a)
      (λ d k.
      let place : 6 + (16 * (a - 1) + d) ≡ 6 + 16 * (a - 1) + d = omega arith in
      rw at at (sym (name-byte (a - 1) d (omega arith) k)) ∙ ap (λ (x : ℕ). get_or (in_kind true s) x 0) place))

-- ## Twins
-- a plain sheet and its named one
pub named-twins : (s : List ℕ) → (header_of s).named ≡ false → 6 ≤ length s → IsBytes s → Twins s (in_kind true s)
unfolding system_records
named-twins s plain long small =
    let h = header_of s in
    let g = kind-header true s long small in
    let none = labels-none h plain in
    let all = labels-all (of_kind true h) refl in
    record {
      plain = plain;
      named = ap (λ (x : Header). x.named) g;
      states = sym (ap (λ (x : Header). x.states) g);
      actions = sym (ap (λ (x : Header). x.actions) g);
      transitions = sym (ap (λ (x : Header). x.transitions) g);
      header = long;
      longer = omega (arith, kind-size true s, length-drop (state_at h 0) s, none, all, long);
      names = λ a l u. named-record s (header_of (in_kind true s)) a l u ∙ plain_label s h a plain;
      records = sym (ap (system_records (in_kind true s)) g ∙ kind-records true s);
    }

-- rule 19 kept: each label is its number in decimal
pub decimal-each : (s : List ℕ) (h : Header) → named_in_decimal s h ≡ true → (a : ℕ) → 1 ≤ a → a ≤ h.actions → label_in s h a ≡ decimal_label a
unfolding named_in_decimal
decimal-each s h e a l u =
    let at : suc (a - 1) ≡ a = omega arith in
    let t = all-at h.actions _ e (a - 1) (omega arith) in
    rw at at (label-tests.sound _ _ (true-T _ t))

-- a named sheet with decimal names and its plain one
pub plain-twins : (s : List ℕ) → (header_of s).named ≡ true → Sized s (header_of s) → IsBytes s → named_in_decimal s (header_of s) ≡ true → Twins (in_kind false s) s
unfolding system_records
plain-twins s named sized small decimal =
    let h = header_of s in
    let long = sized.long in
    let six : 6 ≤ length s = omega (arith, long) in
    let g = kind-header false s six small in
    let actions = ap (λ (x : Header). x.actions) g in
    let none = labels-none (of_kind false h) refl in
    let all = labels-all h named in
    record {
      plain = ap (λ (x : Header). x.named) g;
      named = named;
      states = ap (λ (x : Header). x.states) g;
      actions = actions;
      transitions = ap (λ (x : Header). x.transitions) g;
      header = omega (arith, kind-size false s);
      longer = omega (arith, kind-size false s, length-drop (state_at h 0) s, none, all, actions, long);
      names = λ a l u. sym (named-label s h a named) ∙ decimal-each s h decimal a l (omega (arith, u, actions));
      records = ap (system_records (in_kind false s)) g ∙ kind-records false s;
    }
