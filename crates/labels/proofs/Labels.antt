-- The labels of a readable sheet: as code reads them one by one, and by number in a plain sheet.
use Prim.Native.Nat.{ℕ, suc, ◌+◌, ◌≤◌, ◌<◌, max}
use native.Mathlib.Numerals.{add-one}
use native.Mathlib.Omega.{arith}
use mathlib.Core.Path.{◌≡◌, sym, ap, ap₂, ◌∙◌, subst}
use mathlib.Core.Bool.{true, false, not, ◌||◌}
use mathlib.Core.List.{List, [], ◌∷◌, ◌++◌}
use borrow.Author.Tests.{not-true}
use lib.ListN.{length, get_or, take}
use lib.Seq.{take-suc, take_all}
use Rattle.lts.specs.Bounded.{list_below}
use Rattle.lts.specs.Labels.{joined_labels, joined_action}
use Rattle.lts.proofs.Below.{neither, length-list_below}
use Rattle.lts.proofs.Labels.{numbered-joined, numbered-action}
use Rattle.encoding.specs.declared.Header.{Header}
use Rattle.encoding.specs.Labels.{decimal_label, label_in, labels_in}
use Rattle.encoding.specs.Checked.{Bounds}
use Rattle.encoding.proofs.Labels.{labels_length_lem, labels_at}
use Rattle.encoding.proofs.Laws.{plain-labels, decimals-apart}
use Rattle.labels.specs.Index.{Indexed}
use Rattle.labels.specs.Maps.{Matches}

module _ (s : List ℕ) (h : Header) where
  -- the label that is read next, and the labels with it
  module _ (i : ℕ) (l : i < h.actions) {x : List ℕ} (e : x ≡ label_in s h (i + 1)) where
    pub label-next : x ≡ get_or (labels_in s h) i []
    label-next = e ∙ ap (label_in s h) (add-one i) ∙ sym (labels_at s h i l)

    pub labels_next : take i (labels_in s h) ++ (x ∷ []) ≡ take (i + 1) (labels_in s h)
    labels_next =
        let n = labels_length_lem s h in
        ap (λ (y : List ℕ). take i (labels_in s h) ++ (y ∷ [])) label-next ∙ sym (take-suc (labels_in s h) i [] (omega (arith, l, n)))
        ∙ ap (λ (k : ℕ). take k (labels_in s h)) (sym (add-one i))

    pub indexed-next : {index : List ℕ} → Indexed (take i (labels_in s h) ++ (x ∷ [])) index → Indexed (take (i + 1) (labels_in s h)) index
    indexed-next {index} = subst (λ (J : List (List ℕ)). Indexed J index) labels_next

  pub labels-whole : (i : ℕ) → h.actions ≤ i → take i (labels_in s h) ≡ labels_in s h
  labels-whole i l = let n = labels_length_lem s h in take_all i (labels_in s h) (omega (arith, l, n))

  pub indexed-all : (i : ℕ) → h.actions ≤ i → {index : List ℕ} → Indexed (take i (labels_in s h)) index → Indexed (labels_in s h) index
  indexed-all i l {index} = subst (λ (J : List (List ℕ)). Indexed J index) (labels-whole i l)

-- ## Two plain sheets: joined labels by number

module _ (s : List ℕ) (h : Header) (t : List ℕ) (g : Header) (bh : Bounds h) (bg : Bounds g) (plain : not (h.named || g.named) ≡ true) where
  abbrev d : ℕ → List ℕ
  d i = decimal_label (suc i)

  both : (h.named ≡ false) × (g.named ≡ false)
  both = neither h.named g.named (not-true _ plain)

  first : labels_in s h ≡ list_below h.actions d
  first = plain-labels s h both.0

  second : labels_in t g ≡ list_below g.actions d
  second = plain-labels t g both.1

  once : (i j : ℕ) → i < max h.actions g.actions → j < max h.actions g.actions → d i ≡ d j → i ≡ j
  once = let lh = bh.actions in let lg = bg.actions in decimals-apart (max h.actions g.actions) (omega (arith, lh, lg))

  -- as many as the sheet with more actions has
  pub plain-count : max h.actions g.actions ≡ length (joined_labels (labels_in s h) (labels_in t g))
  plain-count =
      sym (ap₂ (λ (A B : List (List ℕ)). length (joined_labels A B)) first second
      ∙ ap (λ (J : List (List ℕ)). length J) (numbered-joined d h.actions g.actions once) ∙ length-list_below (max h.actions g.actions) d)

  -- and the second's actions keep their numbers
  pub plain-matches : {to : List ℕ} → length to ≡ 65 → ((a : ℕ) → 1 ≤ a → a ≤ g.actions → get_or to a 0 ≡ a)
      → Matches (labels_in s h) (labels_in t g) g.actions to
  plain-matches long keeps = record {
    long = long;
    action = λ b l m.
        keeps b l m ∙ sym (ap₂ (λ (A B : List (List ℕ)). joined_action A B b) first second
        ∙ numbered-action d h.actions g.actions once b l m);
  }
