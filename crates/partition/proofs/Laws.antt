-- Laws of blocks, of their representatives and of the pending ones. Assumes nothing.
use mathlib.Core.Path.{◌≡◌, sym, ap, ap₂, ◌∙◌}
use mathlib.Core.Bool.{Bool, true, false, cond, ◌&&◌, ◌||◌, xor, and-false}
use mathlib.Core.List.{List, ◌++◌, append-nil}
use mathlib.Core.Logic.{⊎_elim}
use Prim.Native.Nat.{ℕ, ◌+◌, ◌*◌, ◌%◌, ◌≤◌, ◌<◌}
use native.Mathlib.Omega.{arith}
use lib.Dec.{eqb}
use lib.ListN.{length, get_or, drop, drop_of_length-le, replicate}
use Rattle.lts.specs.Bounded.{any_below, sum_below, count_below, list_below, passing, lowest}
use Rattle.lts.specs.System.{Set, Rel, Lts, any_state}
use Rattle.lts.specs.Refinement.{Relations, block, representative, is_representative, pending, chosen, block_count, representatives}
use Rattle.lts.proofs.Count.{passing-shorter}
use Rattle.rows.specs.Rows.{in_row, row_of, row_words, states_below}
use Rattle.relation.specs.Matrix.{relation_of}
use Rattle.lts.proofs.Below.{lt-or-ge, either, any-no, any-cong, any-shorter, sum-cong, list_below-cong, lowest-cong, lowest-agree, lowest-test}
use Rattle.rows.proofs.Rows.{states-in, states-out, picked_none, picked-in, picked-out, picked_all}
use Rattle.sets.proofs.Lists.{set-in}
use Rattle.relation.proofs.Matrices.{in_row-drop}
use Rattle.lts.proofs.Lists.{passing-same}
use Rattle.partition.specs.Pending.{pending_in}

-- whether the sets of x differ in two lists
abbrev pub differs : Rel → Rel → Set
differs A B x = any_below 256 (λ q. xor (A x q) (B x q))

pub differs_at : (A B : Rel) (x : ℕ) {u v : List ℕ} → u ≡ row_of 4 (A x) → v ≡ row_of 4 (B x) → any_below 256 (λ q. xor (in_row u q) (in_row v q)) ≡ differs A B x
differs_at A B x e f = any-cong 256 _ _ (λ q h. ap₂ xor (set-in (A x) e q h) (set-in (B x) f q h))

-- ---- a row that states are put into one by one, ascending: after q states it holds those of S below q

pub states-none : (S : Set) → replicate {A = ℕ} 4 0 ≡ row_of 4 (states_below 0 S)
states-none S = picked_none S ∙ picked_all S 0

pub states-skip : (S : Set) (q : ℕ) → S q ≡ false → row_of 4 (states_below q S) ≡ row_of 4 (states_below (q + 1) S)
states-skip S q e = picked-out S q (sym (picked_all S q)) e ∙ picked_all S (q + 1)

pub states-take : (S : Set) (q : ℕ) (row : List ℕ) → row ≡ row_of 4 (states_below q S) → S q ≡ true
    → row_of (length row) (λ x. eqb x q || in_row row x) ≡ row_of 4 (states_below (q + 1) S)
states-take S q row now e = picked-in S q (now ∙ sym (picked_all S q)) e ∙ picked_all S (q + 1)

-- from a on no state of S
pub states-same : (S : ℕ → Bool) (a b : ℕ) → a ≤ b → ((x : ℕ) → a ≤ x → x < b → S x ≡ false) → (x : ℕ) → states_below a S x ≡ states_below b S x
states-same S a b h none x =
    ⊎_elim (λ (l : x < a). states-in a S x l ∙ sym (states-in b S x (omega arith)))
    (λ (l : a ≤ x). states-out a S x l ∙ sym (⊎_elim (λ (m : x < b). states-in b S x m ∙ none x l m) (λ (m : b ≤ x). states-out b S x m) (lt-or-ge x b)))
    (lt-or-ge x a)

-- whether p is the lowest state of its row, a part of a matrix that starts at the row's first word
pub row-lowest-test : (n : ℕ) (g : List ℕ) (p : ℕ) {row : List ℕ} {w : ℕ} → w ≡ row_words n → row ≡ drop (p * row_words n) g → p < n
    → eqb (lowest (w * 64) (in_row row)) p ≡ eqb (lowest n (relation_of n g p)) p
row-lowest-test n g p width e hp =
    ap₂ (λ (k : ℕ) (l : List ℕ). eqb (lowest (k * 64) (in_row l)) p) width e
    ∙ ap (λ (x : ℕ). eqb x p) (lowest-cong (row_words n * 64) _ _ (λ i. in_row-drop (row_words n) g p i)) ∙ lowest-test n (row_words n * 64) (relation_of n g p) p (omega arith) hp

-- ---- a list that is filled to its end

pub fill_done : (f : ℕ → ℕ) (d l : List ℕ) (j n : ℕ) → l ≡ list_below j f ++ drop j d → j ≡ n → length d ≡ n → l ≡ list_below n f
fill_done f d l j n now end long =
    now ∙ ap₂ (λ (k : ℕ) (t : List ℕ). list_below k f ++ t) end (drop_of_length-le d {i = j} (omega arith)) ∙ append-nil (list_below n f)

-- ---- the blocks of the refinement rule, by matrices

module _ (L : Lts) (s : Relations) (n : ℕ) (K P : Rel) (size : L.states ≡ n) (related : (p q : ℕ) → p < n → q < n → K p q ≡ s.related p q)
    (blocks : (p q : ℕ) → p < n → q < n → P p q ≡ block K p q) where
  pub block-is : (p q : ℕ) → p < n → q < n → P p q ≡ block s.related p q
  unfolding block
  block-is p q hp hq = blocks p q hp hq ∙ ap₂ ◌&&◌ (related p q hp hq) (related q p hq hp)

  pub representative-is : (p : ℕ) → p < n → lowest n (P p) ≡ representative L s.related p
  unfolding representative
  representative-is p hp = lowest-agree n _ _ (λ q hq. block-is p q hp hq) ∙ ap (λ (k : ℕ). lowest k (block s.related p)) (sym size)

  pub block-count-is : count_below n (λ p. eqb (lowest n (P p)) p) ≡ block_count L s.related
  unfolding count_below block_count is_representative
  block-count-is =
      sum-cong n _ _ (λ p hp. ap (λ (x : ℕ). cond (eqb x p) 1 0) (representative-is p hp))
      ∙ ap (λ (k : ℕ). sum_below k (λ p. cond (eqb (representative L s.related p) p) 1 0)) (sym size)

  pub names-are : list_below n (λ p. lowest n (P p)) ≡ representatives L s.related
  unfolding representatives
  names-are = list_below-cong n _ _ representative-is ∙ ap (λ (k : ℕ). list_below k (representative L s.related)) (sym size)

-- ---- the pending blocks of the refinement rule, by lists of 256 sets that have no pair but those below n

module _ (L : Lts) (s : Relations) (n : ℕ) (K W P : Rel) (small : n ≤ 256) (size : L.states ≡ n)
    (related : (p q : ℕ) → p < n → q < n → K p q ≡ s.related p q) (viewed : (p q : ℕ) → p < n → q < n → W p q ≡ s.viewed p q)
    (blocks : (p q : ℕ) → p < n → q < n → P p q ≡ block K p q)
    (related-in : (p q : ℕ) → p < 256 → q < 256 → K p q ≡ true → (p < n) × (q < n)) (viewed-in : (p q : ℕ) → p < 256 → q < 256 → W p q ≡ true → (p < n) × (q < n)) where
  -- a pair that is not below n
  off : (R : Rel) → ((p q : ℕ) → p < 256 → q < 256 → R p q ≡ true → (p < n) × (q < n)) → (p q : ℕ) → p < 256 → q < 256 → ((p < n) × (q < n) → ⊥) → R p q ≡ false
  off R inside p q hp hq out = ⊎_elim (λ (e : R p q ≡ true). absurd (out (inside p q hp hq e))) (λ (e : R p q ≡ false). e) (either (R p q))

  same-off : (p q : ℕ) → p < 256 → q < 256 → ((p < n) × (q < n) → ⊥) → xor (W p q) (K p q) ≡ false
  unfolding xor
  same-off p q hp hq out = ap₂ xor (off W viewed-in p q hp hq out) (off K related-in p q hp hq out)

  pub pending-in-is : (p : ℕ) → p < n → pending_in 256 K W P p ≡ pending L s p
  unfolding pending_in pending is_representative any_state
  pending-in-is p hp =
      let wide : p < 256 = omega (arith, hp, small) in
      ap₂ ◌&&◌ (lowest-test n 256 (P p) p small hp ∙ ap (λ (x : ℕ). eqb x p) (representative-is L s n K P size related blocks p hp))
      (any-shorter n 256 (λ q. xor (W p q) (K p q)) small (λ q l h. same-off p q wide h (λ b. omega (arith, b.1, l)))
      ∙ any-cong n _ _ (λ q hq. ap₂ xor (viewed p q hp hq) (related p q hp hq)) ∙ ap (λ (k : ℕ). any_below k (λ q. xor (s.viewed p q) (s.related p q))) (sym size))

  pub pending-off : (p : ℕ) → n ≤ p → p < 256 → pending_in 256 K W P p ≡ false
  unfolding pending_in
  pending-off p l h =
      ap (λ (b : Bool). eqb (lowest 256 (P p)) p && b) (sym (any-no 256 _ (λ q hq. same-off p q h hq (λ b. omega (arith, b.0, l))))) ∙ and-false (eqb (lowest 256 (P p)) p)

  pub passing-pending : passing 256 (pending_in 256 K W P) ≡ passing L.states (pending L s)
  passing-pending =
      passing-shorter n 256 (pending_in 256 K W P) small (λ i l h. pending-off i l h) ∙ passing-same n _ _ pending-in-is ∙ ap (λ (k : ℕ). passing k (pending L s)) (sym size)

  -- the row that the engine keeps: whether something is pending, and the representative at position e mod c of the c pending ones
  module _ (row : List ℕ) (row_is : row ≡ row_of 4 (pending_in 256 K W P)) where
    pub any-is : any_below 256 (in_row row) ≡ any_state L (pending L s)
    unfolding any_state
    any-is =
        any-cong 256 _ _ (λ q h. set-in (pending_in 256 K W P) row_is q h) ∙ any-shorter n 256 (pending_in 256 K W P) small (λ i l h. pending-off i l h)
        ∙ any-cong n _ _ pending-in-is ∙ ap (λ (k : ℕ). any_below k (pending L s)) (sym size)

    pub listed : passing 256 (in_row row) ≡ passing L.states (pending L s)
    listed = passing-same 256 _ _ (λ q h. set-in (pending_in 256 K W P) row_is q h) ∙ passing-pending

    pub chosen_is : (e : ℕ) → get_or (passing 256 (in_row row)) (e % length (passing 256 (in_row row))) 0 ≡ chosen L e s
    unfolding chosen
    chosen_is e = ap (λ (l : List ℕ). get_or l (e % length l) 0) listed
