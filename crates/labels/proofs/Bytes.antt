-- Labels written one after the other.
use Prim.Native.Nat.{ℕ, ◌+◌, ◌*◌, ◌-◌, ◌≤◌, ◌<◌}
use native.Mathlib.Omega.{arith}
use mathlib.Core.Path.{◌≡◌, sym, ap, ap₂, ◌∙◌, subst}
use mathlib.Core.Bool.{true, false}
use mathlib.Core.Logic.{⊎_elim}
use mathlib.Core.List.{List, [], ◌∷◌, ◌++◌}
use lib.Dec.{T}
use lib.ListN.{length, get_or, take, drop, length-append, length-drop, take-append-drop}
use lib.Seq.{sets, sets-eq, length-sets, get_or-take, length-take-le, take-append_seam, drop-append-add, drop-drop}
use Rattle.lts.specs.Places.{among, distinct}
use Rattle.lts.specs.Labels.{same_label, joined_labels, joined_action}
use Rattle.lts.proofs.Below.{clash, either, true-T, T_true}
use Rattle.lts.proofs.Places as places
use Rattle.lts.proofs.Labels.{label-tests, joined_length, joined-each, joined-second, joined-old, joined-new, joined-step-old, joined-step-new}
use Rattle.encoding.specs.declared.Header.{Header}
use Rattle.encoding.specs.Labels.{labels_in, labels_bytes}
use Rattle.encoding.specs.Checked.{Bounds}
use Rattle.encoding.proofs.Labels.{labels_length_lem}
use Rattle.lts.proofs.Lists.{sets-append}
use Rattle.encoding.proofs.Bytes.{Sixteen, label-sixteen, bytes-none, bytes-more, bytes-length}
use Rattle.labels.specs.Maps.{Begins, Matches, Joining}

-- the first i of labels of 16 bytes
pub take-sixteen : (J : List (List ℕ)) (i : ℕ) → i ≤ length J → Sixteen J → Sixteen (take i J)
take-sixteen J i l each k h =
    let n = length-take-le i J l in
    ap (λ (x : List ℕ). length x) (get_or-take i J k [] (omega (arith, h, n))) ∙ each k (omega (arith, h, n, l))

-- ## Labels written one after the other from a place on

module _ (out₀ : List ℕ) (at : ℕ) where
  pub put-none : out₀ ≡ sets out₀ at (labels_bytes [])
  put-none = sym (ap (sets out₀ at) bytes-none)

  pub put-more : (J : List (List ℕ)) (i : ℕ) (x : List ℕ) {out : List ℕ} → Sixteen J → length J ≡ i → out ≡ sets out₀ at (labels_bytes J)
      → sets out (at + 16 * i) x ≡ sets out₀ at (labels_bytes (J ++ (x ∷ [])))
  put-more J i x each count e =
      let long : length (labels_bytes J) ≡ 16 * i = bytes-length J each ∙ ap (λ (k : ℕ). 16 * k) count in
      rw (e, bytes-more, sets-append, long)

-- ## A label written behind others

sets_behind : (p q x : List ℕ) → length x ≤ length q → sets (p ++ q) (length p) x ≡ p ++ x ++ drop (length x) q
sets_behind p q x room =
    let n = length-append p q in
    sets-eq x (p ++ q) (length p) (omega (arith, room, n))
    ∙ ap₂ (λ (a b : List ℕ). a ++ x ++ b) (take-append_seam p q) (drop-append-add p q (length x))

label-put : (J : List (List ℕ)) (x before : List ℕ) {out : List ℕ} (at : ℕ) → Sixteen J → length x ≡ 16 → at ≡ 16 * length J → at + 16 ≤ length before
    → out ≡ labels_bytes J ++ drop at before → sets out at x ≡ labels_bytes (J ++ (x ∷ [])) ++ drop (at + 16) before
label-put J x before {out} at each long place room e =
    let n : at ≡ length (labels_bytes J) = place ∙ sym (bytes-length J each) in
    let left = length-drop at before in
    ap₂ (λ (l : List ℕ) (k : ℕ). sets l k x) e n ∙ sets_behind (labels_bytes J) (drop at before) x (omega (arith, left, long, room))
    ∙ ap₂ ◌++◌ (sym (bytes-more J x)) (drop-drop (length x) at before ∙ ap (λ (k : ℕ). drop (at + k) before) long)

-- ## Buffers that begin with given bytes

pub begins-of : (bytes rest : List ℕ) {out : List ℕ} → out ≡ bytes ++ rest → Begins out bytes
begins-of bytes rest e = record {
  room = let n = ap (λ (l : List ℕ). length l) e ∙ length-append bytes rest in omega (arith, n);
  front = ap (λ (l : List ℕ). take (length bytes) l) e ∙ take-append_seam bytes rest;
}

begins-is : (bytes : List ℕ) {out : List ℕ} → Begins out bytes → out ≡ bytes ++ drop (length bytes) out
begins-is bytes {out} b = sym (take-append-drop (length bytes) out) ∙ ap (λ (l : List ℕ). l ++ drop (length bytes) out) b.front

pub begins-put : (J : List (List ℕ)) (x : List ℕ) {out : List ℕ} (at : ℕ) → Sixteen J → length x ≡ 16 → at ≡ 16 * length J → at + 16 ≤ length out
    → Begins out (labels_bytes J) → Begins (sets out at x) (labels_bytes (J ++ (x ∷ [])))
begins-put J x {out} at each long place room b =
    let n : length (labels_bytes J) ≡ at = bytes-length J each ∙ sym place in
    begins-of (labels_bytes (J ++ (x ∷ []))) _
    (label-put J x out at each long place room (begins-is (labels_bytes J) b ∙ ap (λ (k : ℕ). labels_bytes J ++ drop k out) n))

-- ## The second sheet's new labels behind the first's

module _ (A B : List (List ℕ)) (once : T (distinct same_label B)) (i : ℕ) (l : i < length B) {a : ℕ} (number : a ≡ joined_action A B (i + 1)) where
  abbrev x : List ℕ
  x = get_or B i []

  -- a number above the first's is that of a new label, the next; others are of the first's labels
  new : length A < a → T (among same_label A x) → ⊥
  new h t =
      let p = (places.place-holds same_label label-tests [] A x t).0 in
      let e = number ∙ joined-old A B i l t in
      omega (arith, p, e, h)

  old : a ≤ length A → T (among same_label A x)
  old h =
      ⊎_elim (λ (t : among same_label A x ≡ true). true-T (among same_label A x) t)
      (λ (t : among same_label A x ≡ false).
      let e = number ∙ joined-new A B i l once (λ u. clash (T_true (among same_label A x) u) t) in
      let n = joined_length A (take i B) in
      absurd (omega (arith, e, n, h)))
      (either (among same_label A x))

  pub number-low : length (joined_labels A B) ≤ 64 → (1 ≤ a) × (a ≤ 64)
  number-low few =
      let s = joined-second A B (i + 1) (omega arith) (omega (arith, l)) in
      (omega (arith, number, s.0), omega (arith, number, s.1, few))

  module _ (ea : Sixteen A) (eb : Sixteen B) {out : List ℕ} (had : Begins out (labels_bytes (joined_labels A (take i B)))) where
    pub begins-new : {y : List ℕ} → length A < a → y ≡ x → 16 * (a - 1) + 16 ≤ length out
        → Begins (sets out (16 * (a - 1)) y) (labels_bytes (joined_labels A (take (i + 1) B)))
    begins-new {y} h e room =
        let J = joined_labels A (take i B) in
        let f = new h in
        let at = number ∙ joined-new A B i l once f in
        let each = joined-each A (take i B) (λ x. length x ≡ 16) ea (take-sixteen B i (omega (arith, l)) eb) in
        let place : 16 * (a - 1) ≡ 16 * length (joined_labels A (take i B)) = omega (arith, at) in
        subst (Begins (sets out (16 * (a - 1)) y))
        (ap (λ (z : List ℕ). labels_bytes (J ++ (z ∷ []))) e ∙ ap labels_bytes (sym (joined-step-new A B i l once f)))
        (begins-put J y (16 * (a - 1)) each (ap (λ (z : List ℕ). length z) e ∙ eb i l) place room had)

    pub begins-old : a ≤ length A → Begins out (labels_bytes (joined_labels A (take (i + 1) B)))
    begins-old h = subst (Begins out) (ap labels_bytes (sym (joined-step-old A B i l (old h)))) had

-- the first sheet's labels are written, and the second's are to follow
pub joining : (s : List ℕ) (h : Header) (t : List ℕ) (g : Header) (before : List ℕ) {to out : List ℕ} → Bounds h → length before ≡ 1024
    → Matches (labels_in s h) (labels_in t g) g.actions to → length (joined_labels (labels_in s h) (labels_in t g)) ≤ 64
    → out ≡ sets before 0 (labels_bytes (labels_in s h)) → Joining (labels_in s h) (labels_in t g) h.actions to out
joining s h t g before {to} bounds long matches few e =
    let n = labels_length_lem s h in
    let bytes = bytes-length (labels_in s h) (label-sixteen s h) in
    let most = bounds.actions in
    let front = sets-eq (labels_bytes (labels_in s h)) before 0 (omega (arith, n, bytes, long, most)) in
    record {
      matches = subst (λ (k : ℕ). Matches (labels_in s h) (labels_in t g) k to) (sym (labels_length_lem t g)) matches;
      few = few;
      count = sym n;
      each = label-sixteen s h;
      long = ap (λ (l : List ℕ). length l) e ∙ length-sets before 0 (labels_bytes (labels_in s h)) ∙ long;
      front = begins-of (labels_bytes (labels_in s h)) _ (e ∙ front);
    }
