-- The laws that callers use: what an encoding that is read denotes.
use Prim.Native.Nat.{ℕ, suc, ◌≤◌, ◌<◌}
use native.Mathlib.Nat.{suc_inj}
use native.Mathlib.Omega.{arith}
use mathlib.Core.Path.{◌≡◌, refl, sym, ap, subst, fun_ext, ◌∙◌}
use mathlib.Core.Bool.{Bool, true, false, not, ◌&&◌, ◌||◌, and-eq-true_iff}
use mathlib.Core.List.{List}
use lib.Dec.{T}
use Rattle.lts.specs.Bounded.{all_below, list_below}
use Rattle.lts.specs.Places.{distinct}
use Rattle.lts.specs.Labels.{same_label, Labels}
use Rattle.lts.proofs.Below.{all-at, true-T}
use Rattle.lts.proofs.Labels.{numbered-distinct}
use Rattle.encoding.specs.declared.Header.{Header}
use Rattle.lts.specs.Transitions.{transitions, transitions_below}
use Rattle.encoding.specs.Labels.{label_fits, decimal_label, label_in, labels_in, labels_fit}
use Rattle.encoding.specs.Checked.{Bounds, ReadableAs}
use Rattle.encoding.specs.Denotation.{lts_of}
use Rattle.encoding.specs.Encoding.{read_encoding}
use Rattle.encoding.specs.Read.{Denoted}
use Rattle.encoding.proofs.Labels.{plain_label, labels_length_lem, decimal-fits, decimal-label-injective}
use Rattle.encoding.proofs.Reader.{readable_of}
use Rattle.encoding.proofs.Denotation.{lts-states, lts-actions, well-formed}
use Rattle.encoding.proofs.Counting.{all-count}
use Rattle.std.specs.Prelude.{Ok}

all-is : (s : List ℕ) (h : Header) → ReadableAs s h → transitions (lts_of s) ≡ transitions_below (lts_of s) h.states
unfolding transitions
all-is s h g = rw (lts-states s h g.header)

-- ## The labels of an encoding that is read
pub plain-labels : (s : List ℕ) (h : Header) → h.named ≡ false → labels_in s h ≡ list_below h.actions (λ i. decimal_label (suc i))
unfolding labels_in
plain-labels s h e = ap (list_below h.actions) (fun_ext (λ i. plain_label s h (suc i) e))

-- no two decimal labels are the same
pub decimals-apart : (m : ℕ) → m ≤ 64 → (i j : ℕ) → i < m → j < m → decimal_label (suc i) ≡ decimal_label (suc j) → i ≡ j
decimals-apart m few i j l k e = suc_inj (decimal-label-injective (suc i) (suc j) (omega (arith, l, few)) (omega (arith, k, few)) e)

-- what rule 17 says of a named sheet
pub named-fit : (s : List ℕ) (h : Header) → labels_fit s h ≡ true → h.named ≡ true
    → ((i : ℕ) → i < h.actions → label_fits (label_in s h (suc i)) ≡ true) × T (distinct same_label (labels_in s h))
unfolding labels_fit
named-fit s h e n =
    let each = all_below h.actions (λ i. label_fits (label_in s h (suc i))) in
    let both : (each && distinct same_label (labels_in s h)) ≡ true = sym (ap (λ b. not b || each && distinct same_label (labels_in s h)) n) ∙ e in
    let p = (and-eq-true_iff each (distinct same_label (labels_in s h))).0 both in
    (all-at h.actions _ p.0, true-T _ p.1)

pub labels-once : (s : List ℕ) (h : Header) → Bounds h → labels_fit s h ≡ true → T (distinct same_label (labels_in s h))
labels-once s h b fit = go h.named refl
  where
    go : (x : Bool) → h.named ≡ x → T (distinct same_label (labels_in s h))
    go true n = (named-fit s h fit n).1
    go false n = subst (λ (l : List (List ℕ)). T (distinct same_label l)) (sym (plain-labels s h n))
        (numbered-distinct (λ i. decimal_label (suc i)) h.actions (decimals-apart h.actions b.actions))

-- a label for each action, no two the same
pub sheet-labels : (s : List ℕ) (h : Header) → ReadableAs s h → Labels (labels_in s h) (lts_of s)
sheet-labels s h g = record {
  count = labels_length_lem s h ∙ sym (lts-actions s h g.header);
  once = labels-once s h g.recorded.sized.bounds g.labels;
}

pub denoted : (s : List ℕ) (h : Header) → read_encoding s ≡ Ok h → Denoted s h
denoted s h e =
    let g = readable_of e in
    record {
      bounds = g.recorded.sized.bounds;
      formed = well-formed s h g;
      states = lts-states s h g.header;
      actions = lts-actions s h g.header;
      transitions = rw (all-is s h g) (all-count s h g);
      labels = subst (λ (x : Header). Labels (labels_in s x) (lts_of s)) g.header (sheet-labels s h g);
    }

-- each label is a name
pub label-fits-each : (s : List ℕ) (h : Header) → Bounds h → labels_fit s h ≡ true → (i : ℕ) → i < h.actions → label_fits (label_in s h (suc i)) ≡ true
label-fits-each s h b fit i l = go h.named refl
  where
    go : (x : Bool) → h.named ≡ x → label_fits (label_in s h (suc i)) ≡ true
    go true n = (named-fit s h fit n).0 i l
    go false n = ap label_fits (plain_label s h (suc i) n) ∙ decimal-fits (suc i) (omega (arith, l, b.actions))
