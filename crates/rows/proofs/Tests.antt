-- Laws of the tests of rows: whether a bitwise operation on their words gives 0, and inclusion. Assumes nothing.
use mathlib.Core.Path.{◌≡◌, refl, sym, ap, ◌∙◌, subst}
use mathlib.Core.Bool.{Bool, true, false, not, ◌&&◌, xor}
use mathlib.Core.List.{List}
use mathlib.Core.Logic.{⊎_elim}
use Prim.Native.Nat.{ℕ, ◌+◌, ◌-◌, ◌*◌, ◌/◌, ◌%◌, ◌^◌, ◌<◌, ◌≤◌}
use native.Mathlib.Nat.{mod-lt, zero-add}
use native.Mathlib.Omega.{arith}
use lib.Count.{count_trailing_zeros}
use lib.Bits.{bit_and}
use lib.Dec.{eqb}
use lib.ListN.{length, get_or, take}
use lib.Pointwise.{pointwise, bytes_decides}
use Rattle.std.specs.Bool.{MatchBool}
use Rattle.std.specs.List.{range_with_len, AllWithin, HoldsAt}
use Rattle.std.proofs.lemmas.List.FromFn.{get_or-range_with_len, length-range_with_len}
use Rattle.lts.specs.Bounded.{any_below, ◌⇒◌}
use Rattle.lts.proofs.Below.{all_yes, all-not, any-yes, any-no, any_some, clash, either, lt-or-ge}
use Rattle.rows.specs.Rows.{bit, in_row, row_of, included_below}
use Rattle.rows.proofs.Bits.{bit-of-zero}
use Rattle.rows.proofs.Rows.{Bitwise, zip-joined, minus-bitwise, row-front, row_of-cong, in_row-of}
use Rattle.rows.proofs.Counts.{trailing_lt, trailing_at}

-- ---- numbers in blocks of 64

pub block_more : (P : ℕ → Type 0) (c t : ℕ) → ((q : ℕ) → q < c * 64 → P q) → ((i : ℕ) → i < t → P (c * 64 + i)) → (q : ℕ) → q < c * 64 + t → P q
block_more P c t below here q h =
    ⊎_elim (λ (l : q < c * 64). below q l)
    (λ (l : c * 64 ≤ q). let split : c * 64 + (q - c * 64) ≡ q = omega arith in subst P split (here (q - c * 64) (omega arith)))
    (lt-or-ge q (c * 64))

-- ---- a test of two rows by a bitwise operation on their words: is the word 0?

module _ (op : ℕ → ℕ → ℕ) (β : Bool → Bool → Bool) (ok : Bitwise op β) (a b : List ℕ) (c : ℕ) (ha : get_or a c 0 < 2 ^ 64) (hb : get_or b c 0 < 2 ^ 64) where
  at-bit : (i : ℕ) → i < 64 → β (in_row a (c * 64 + i)) (in_row b (c * 64 + i)) ≡ bit (op (get_or a c 0) (get_or b c 0)) i
  at-bit i l = sym (zip-joined op β ok a b c ha hb i l)

  -- it is not: some member is found
  pub word-found : (k : ℕ) → c < k → (op (get_or a c 0) (get_or b c 0) ≡ 0 → ⊥) → true ≡ any_below (k * 64) (λ q. β (in_row a q) (in_row b q))
  word-found k h ne =
      let z = op (get_or a c 0) (get_or b c 0) in
      let low = trailing_lt 64 z (ok.small _ _ ha hb) ne in
      any-yes (k * 64) _ (c * 64 + count_trailing_zeros 64 z) (omega (arith, low)) (at-bit (count_trailing_zeros 64 z) low ∙ trailing_at 64 z low)

  -- it is: none in this word
  pub word-passed : op (get_or a c 0) (get_or b c 0) ≡ 0 → ((q : ℕ) → q < c * 64 → β (in_row a q) (in_row b q) ≡ false)
      → (q : ℕ) → q < (c + 1) * 64 → β (in_row a q) (in_row b q) ≡ false
  word-passed e none q h =
      block_more (λ q. β (in_row a q) (in_row b q) ≡ false) c 64 none (λ i l. at-bit i l ∙ ap (λ (z : ℕ). bit z i) e ∙ bit-of-zero i) q (omega arith)

pub none_passed : (k c : ℕ) (f : ℕ → Bool) → c ≡ k → ((q : ℕ) → q < c * 64 → f q ≡ false) → false ≡ any_below (k * 64) f
none_passed k c f e none = any-no (k * 64) f (λ q h. none q (omega arith))

module _ (op : ℕ → ℕ → ℕ) (β : Bool → Bool → Bool) (ok : Bitwise op β) (a b : List ℕ) (ha : (c : ℕ) → get_or a c 0 < 2 ^ 64) (hb : (c : ℕ) → get_or b c 0 < 2 ^ 64) where
  abbrev word : ℕ → ℕ
  word c = op (get_or a c 0) (get_or b c 0)

  -- the words are all 0: there is none
  pub words-none : (k : ℕ) → ((c : ℕ) → c < k → word c ≡ 0) → false ≡ any_below (k * 64) (λ q. β (in_row a q) (in_row b q))
  unfolding in_row
  words-none k e =
      any-no (k * 64) _ (λ q h. sym (ok.bits _ _ (q % 64) (ha (q / 64)) (hb (q / 64)) (mod-lt q (omega arith)))
      ∙ ap (λ (z : ℕ). bit z (q % 64)) (e (q / 64) (omega arith)) ∙ bit-of-zero (q % 64))

-- inclusion: no member of A is outside B
pub included-any : (k : ℕ) (A B : ℕ → Bool) → not (any_below k (λ q. A q && not (B q))) ≡ included_below k A B
unfolding included_below
included-any k A B = ⊎_elim
    (λ p. let s = any_some k outside p in ap not p ∙ all-not k _ s.0 s.1 (out (A s.0) (B s.0) s.2))
    (λ p. ap not p ∙ all_yes k _ (λ q h. inside (A q) (B q) (not-any q h p)))
    (either (any_below k outside))
  where
    outside : ℕ → Bool
    outside q = A q && not (B q)

    not-any : (q : ℕ) → q < k → any_below k outside ≡ false → outside q ≡ false
    not-any q h p = ⊎_elim (λ e. absurd (clash (sym (any-yes k outside q h e)) p)) (λ e. e) (either (outside q))

    out : (a b : Bool) → a && not b ≡ true → (a ⇒ b) ≡ false
    out true true p = sym p
    out true false p = refl
    out false b p = absurd (clash p refl)

    inside : (a b : Bool) → a && not b ≡ false → (a ⇒ b) ≡ true
    inside true true p = refl
    inside true false p = sym p
    inside false b p = refl

alike : (x y : Bool) → xor x y ≡ false → x ≡ y
unfolding xor
alike true true e = refl
alike true false e = absurd (clash refl e)
alike false true e = absurd (clash refl e)
alike false false e = refl

unlike : (x y : Bool) → x ≡ y → xor x y ≡ false
unfolding xor
unlike true true e = refl
unlike true false e = absurd (clash refl e)
unlike false true e = absurd (clash e refl)
unlike false false e = refl

-- ---- what the library's tests of the words say

-- the states of a's word c that b does not have
abbrev pub outside : List ℕ → List ℕ → ℕ → ℕ
outside a b c = bit_and (get_or a c 0) ((2 ^ 64 - 1) - get_or b c 0)

module _ (a b : List ℕ) (ha : (c : ℕ) → get_or a c 0 < 2 ^ 64) (hb : (c : ℕ) → get_or b c 0 < 2 ^ 64) where
  -- `all`, over the words of a without those of b
  pub within-all : (k : ℕ) (r : Bool)
      → MatchBool r (AllWithin (λ c. outside a b c ≡ 0) (range_with_len 0 k) 0 (length (range_with_len 0 k)))
      ((i : ℕ) × (i < length (range_with_len 0 k)) × HoldsAt (λ c. outside a b c ≡ 0 → ⊥) (range_with_len 0 k) i)
      → r ≡ included_below (k * 64) (in_row a) (in_row b)
  within-all k true h = ap not (words-none _ _ minus-bitwise a b ha hb k none) ∙ included-any (k * 64) (in_row a) (in_row b)
    where
      none : (c : ℕ) → c < k → outside a b c ≡ 0
      none c l = ap (outside a b) (sym (get_or-range_with_len 0 k c 0 l ∙ zero-add c)) ∙ h c 0 (omega arith) (omega (arith, l, length-range_with_len 0 k))
  within-all k false (i, l, some) =
      let room : i < k = omega (arith, l, length-range_with_len 0 k) in
      let at = get_or-range_with_len 0 k i 0 room ∙ zero-add i in
      ap not (word-found _ _ minus-bitwise a b i (ha i) (hb i) k room (λ e. some 0 (ap (outside a b) at ∙ e))) ∙ included-any (k * 64) (in_row a) (in_row b)

  -- `!=`
  pub differs : (k : ℕ) → k ≤ length a → k ≤ length b → not (pointwise eqb (take k a) (take k b)) ≡ any_below (k * 64) (λ q. xor (in_row a q) (in_row b q))
  differs k la lb = ⊎_elim unequal equal (either (any_below (k * 64) other))
    where
      other : ℕ → Bool
      other q = xor (in_row a q) (in_row b q)

      front-a : take k a ≡ row_of k (in_row a)
      front-a = row-front k a la ha

      front-b : take k b ≡ row_of k (in_row b)
      front-b = row-front k b lb hb

      equal : any_below (k * 64) other ≡ false → not (pointwise eqb (take k a) (take k b)) ≡ any_below (k * 64) other
      equal e = ap not ((bytes_decides (take k a) (take k b)).1 (front-a ∙ row_of-cong k (in_row a) (in_row b) same ∙ sym front-b)) ∙ sym e
        where
          same : (q : ℕ) → q < k * 64 → in_row a q ≡ in_row b q
          same q l = alike (in_row a q) (in_row b q) (⊎_elim (λ t. absurd (clash (sym (any-yes (k * 64) other q l t)) e)) (λ t. t) (either (other q)))

      unequal : any_below (k * 64) other ≡ true → not (pointwise eqb (take k a) (take k b)) ≡ any_below (k * 64) other
      unequal e =
          let (q, l, d) = any_some (k * 64) other e in
          ap not (⊎_elim (λ t. absurd (clash d (unlike (in_row a q) (in_row b q)
          (sym (in_row-of k (in_row a) q l) ∙ ap (λ (x : List ℕ). in_row x q) (sym front-a ∙ (bytes_decides (take k a) (take k b)).0 t ∙ front-b) ∙ in_row-of k (in_row b) q l))))
          (λ t. t) (either (pointwise eqb (take k a) (take k b)))) ∙ sym e
