-- Rule 17: the loop over the labels of a named sheet, and what the rule says of the names.
use Prim.Native.Nat.{ℕ, suc, ◌+◌, ◌≤◌, ◌<◌}
use mathlib.Core.Path.{◌≡◌, refl, sym, ap, ap₂, ◌∙◌}
use mathlib.Core.Logic.{⊎_elim, ◌↔◌}
use mathlib.Core.Bool.{Bool, true, false, not, cond, ◌&&◌, and-false}
use mathlib.Core.List.{List, [], ◌∷◌, ◌++◌}
use native.Mathlib.Omega.{arith}
use native.Mathlib.Nat.{add-zero}
use native.Mathlib.Numerals.{add-one}
use borrow.Author.Tests.{eq-eqb, ne_eqb, not-true, not-false}
use lib.Dec.{T, eqb}
use lib.ListN.{get_or, replicate}
use Rattle.lts.specs.Bounded.{all_below, list_below}
use Rattle.lts.specs.Places.{among, distinct, place_in}
use Rattle.lts.specs.Labels.{same_label}
use Rattle.lts.proofs.Below.{clash, either, T_true, true-T, and-fst, and-snd, all-not}
use Rattle.lts.proofs.Below.{length-list_below, get_or-list_below, list_below-add}
use Rattle.lts.proofs.Lists.{all_more, all_done}
use Rattle.lts.proofs.Places as places
use Rattle.lts.proofs.Labels.{label-tests}
use Rattle.encoding.specs.declared.Header.{Header}
use Rattle.encoding.specs.Records.{label_record}
use Rattle.encoding.specs.Labels.{label_fits, label_in, labels_in, labels_fit, IsLabel}
use Rattle.encoding.specs.Read.{Misnamed, bad, repeated, WellNamed}
use Rattle.encoding.proofs.Labels.{label-length, named-label, labels_length_lem, labels_at, label-fits-iff}
use Rattle.encoding.proofs.Laws.{named-fit}
use Rattle.labels.specs.Index.{Indexed}
use Rattle.labels.proofs.Index.{indexed-none}
use Rattle.reader.proofs.Lowest.{some-fails}

-- ## A label that is new
-- where it is in the index, its number is below 64
pub found-new : {J : List (List ℕ)} {index : List ℕ} → Indexed J index → (x : List ℕ) {r : ℕ}
    → r ≡ cond (among same_label J x) (place_in same_label J x) 64 → eqb r 64 ≡ not (among same_label J x)
found-new {J} has x {r} e = ⊎_elim
    (λ (t : among same_label J x ≡ true).
    let place = (places.place-holds same_label label-tests [] J x (true-T _ t)).0 in
    let at : r ≡ place_in same_label J x = rw t at e in
    rw t (ne_eqb r 64 (λ q. omega (arith, q, at, place, has.few))))
    (λ (t : among same_label J x ≡ false). let at : r ≡ 64 = rw t at e in rw t (eq-eqb r 64 at))
    (either (among same_label J x))

-- ## The labels in order
module _ (s : List ℕ) (h : Header) where
  -- label number i, from 0, and the first n of them
  abbrev pub nth : ℕ → List ℕ
  nth i = label_in s h (suc i)

  abbrev pub first_labels : ℕ → List (List ℕ)
  first_labels n = list_below n nth

  one_more : (i : ℕ) → first_labels (i + 1) ≡ first_labels i ++ (nth i ∷ [])
  unfolding list_below
  one_more i = rw (list_below-add i 1 nth, add-zero)

  -- the two parts of the rule
  abbrev each_fits : Bool
  each_fits = all_below h.actions (λ i. label_fits (nth i))

  abbrev once_each : Bool
  once_each = distinct same_label (labels_in s h)

-- the first i labels are in the index, each fits, and none stands twice
pub record NamedBelow (s : List ℕ) (h : Header) (i : ℕ) (index : List ℕ) : Type 0 where
  pub indexed : Indexed (first_labels s h i) index
  pub fit : all_below i (λ x. label_fits (nth s h x)) ≡ true
  pub once : T (distinct same_label (first_labels s h i))

-- ## The loop over them
pub named_start : (s : List ℕ) (h : Header) → NamedBelow s h 0 (replicate 512 0)
unfolding list_below all_below distinct
named_start s h = record { indexed = indexed-none 512 refl; fit = refl; once = tt }

-- the rule, of a named sheet
named_rule : (s : List ℕ) (h : Header) → h.named ≡ true → labels_fit s h ≡ each_fits s h && once_each s h
unfolding labels_fit
named_rule s h e = rw e

-- one label, and the test that was made of it
module _ (s : List ℕ) (h : Header) (i : ℕ) {x : List ℕ} (is : x ≡ label_in s h (i + 1)) {b : Bool}
    (test : b ≡ label_fits x && not (among same_label (first_labels s h i) x)) where
  is-nth : x ≡ nth s h i
  is-nth = is ∙ ap (label_in s h) (add-one i)

  pub named_more : {before index : List ℕ} → NamedBelow s h i before → not b ≡ false → Indexed (first_labels s h i ++ (x ∷ [])) index
      → NamedBelow s h (i + 1) index
  named_more had t now =
      let e = sym test ∙ not-false b t in
      let new : among same_label (first_labels s h i) x ≡ false = not-true _ (and-snd (label_fits x) _ e) in
      record {
        indexed = rw (one_more s h i, ← is-nth) now;
        fit = all_more _ i had.fit (sym (ap label_fits (sym is-nth) ∙ and-fst (label_fits x) _ e)) refl;
        once = rw (one_more s h i, ← is-nth) (places.distinct-last same_label label-tests [] _ x (λ u. clash (T_true _ u) new)
            had.once);
      }

  -- it is among the first i, so it stands twice
  stands-twice : i < h.actions → among same_label (first_labels s h i) x ≡ true → once_each s h ≡ false
  stands-twice l t = ⊎_elim
      (λ (d : once_each s h ≡ true).
      let p = (places.among-iff same_label label-tests [] (first_labels s h i) x).0 (true-T _ t) in
      let below : p.0 < i = omega (arith, p.1, length-list_below i (nth s h)) in
      let long = labels_length_lem s h in
      let same = labels_at s h p.0 (omega (arith, below, l)) ∙ sym (get_or-list_below [] i (nth s h) p.0 below) ∙ p.2 ∙ is-nth ∙ sym (labels_at s h i l) in
      let once = (places.distinct-iff same_label label-tests [] (labels_in s h)).0 (true-T _ d) in
      let z = once p.0 i (omega (arith, below, l, long)) (omega (arith, l, long)) same in
      absurd (omega (arith, z, below)))
      (λ d. d) (either (once_each s h))

  pub named-stop : h.named ≡ true → i < h.actions → not b ≡ true → false ≡ labels_fit s h
  named-stop named l t = sym (named_rule s h named ∙ ⊎_elim
      (λ (f : label_fits x ≡ true).
      let e : not (among same_label (first_labels s h i) x) ≡ false = rw f at (sym test ∙ not-true b t) in
      rw (stands-twice l (not-false _ e)) (and-false (each_fits s h)))
      (λ (f : label_fits x ≡ false). rw (← all-not h.actions (λ j. label_fits (nth s h j)) i l (ap label_fits (sym is-nth) ∙ f)))
      (either (label_fits x)))

pub named-done : (s : List ℕ) (h : Header) (i : ℕ) {index : List ℕ} → h.named ≡ true → NamedBelow s h i index → i ≤ h.actions → h.actions ≤ i
    → true ≡ labels_fit s h
unfolding labels_in
named-done s h i named had low high =
    let e : h.actions ≡ i = omega arith in
    let all = sym (all_done (λ x. label_fits (nth s h x)) h.actions i had.fit low high) in
    sym (named_rule s h named ∙ ap₂ ◌&&◌ all (ap (λ (n : ℕ). distinct same_label (first_labels s h n)) e ∙ T_true _ had.once))

pub plain_fits : (s : List ℕ) (h : Header) → not h.named ≡ true → true ≡ labels_fit s h
unfolding labels_fit
plain_fits s h e = rw e

-- ## What the rule says of the names
module _ (s : List ℕ) (h : Header) (named : h.named ≡ true) where
  -- the test of label number i, and two labels that are the same
  fits_iff : (i : ℕ) → T (label_fits (nth s h i)) ↔ IsLabel (label_record s h (suc i)).bytes
  fits_iff i = rw (← named-label s h (suc i) named) (label-fits-iff (nth s h i) (label-length s h (suc i)))

  same_at : (i j : ℕ) → i < h.actions → j < h.actions
      → (get_or (labels_in s h) i [] ≡ get_or (labels_in s h) j []) ↔ ((label_record s h (suc i)).bytes ≡ (label_record s h (suc j)).bytes)
  same_at i j l m =
      let x = labels_at s h i l ∙ named-label s h (suc i) named in
      let y = labels_at s h j m ∙ named-label s h (suc j) named in
      (λ e. sym x ∙ e ∙ y, λ e. x ∙ e ∙ sym y)

  pub well-named : labels_fit s h ≡ true → WellNamed s h
  well-named e =
      let r = named-fit s h e named in
      let long = labels_length_lem s h in
      record {
        each = λ i l. (fits_iff i).0 (true-T _ (r.0 i l));
        once = λ i j l m q. (places.distinct-iff same_label label-tests [] (labels_in s h)).0 r.1 i j
            (omega (arith, l, long)) (omega (arith, m, long)) ((same_at i j l m).1 q);
      }

  misnamed-some : labels_fit s h ≡ false → Misnamed s h
  misnamed-some e = ⊎_elim
      (λ (t : each_fits s h ≡ true).
      let d : once_each s h ≡ false = rw t at (sym (named_rule s h named) ∙ e) in
      let p = places.distinct-twice same_label label-tests [] (labels_in s h) d in
      let m : p.1 < h.actions = omega (arith, p.3, labels_length_lem s h) in
      repeated p.0 p.1 p.2 m ((same_at p.0 p.1 (omega (arith, p.2, m)) m).0 p.4))
      (λ (t : each_fits s h ≡ false).
      let p = some-fails h.actions (λ i. label_fits (nth s h i)) t in
      bad p.0 p.1 (λ q. clash (T_true _ ((fits_iff p.0).1 q)) p.2))
      (either (each_fits s h))

pub misnamed-by : (s : List ℕ) (h : Header) → labels_fit s h ≡ false → (h.named ≡ true) × Misnamed s h
misnamed-by s h e = ⊎_elim (λ (n : h.named ≡ true). (n, misnamed-some s h n e))
    (λ (n : h.named ≡ false). absurd (clash (sym (plain_fits s h (ap not n))) e)) (either h.named)
