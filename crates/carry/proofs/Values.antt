-- The values of a list of numbers of one type: of one more that is written, of one that is read. Assumes nothing.
use Prim.Native.Nat.{ℕ, zero, suc, ◌+◌, ◌*◌, ◌<◌}
use mathlib.Core.Path.{◌≡◌, sym, ap, ◌∙◌}
use mathlib.Core.List.{List, map}
use native.Mathlib.Nat.{mul-suc, mul-zero, not-suc-le-zero, le_of_suc-le-suc}
use native.Mathlib.Omega.{arith}
use lib.ListN.{length, get_or, take, drop, set}
use Rattle.std.proofs.lemmas.List.{length-map, map-set, get_or-map, drop-drop}
use Rattle.std.specs.Simd.{first_chunks}

module _ {A : Type 0} (value : A → ℕ) (values : List A → List ℕ) (each : (xs : List A) → values xs ≡ map value xs) where
  pub values-length : (xs : List A) → length (values xs) ≡ length xs
  values-length xs = ap length (each xs) ∙ length-map xs value

  pub values-set : (xs : List A) (i : ℕ) (x : A) → values (set xs i x) ≡ set (values xs) i (value x)
  values-set xs i x = each (set xs i x) ∙ map-set value xs i x ∙ ap (λ (l : List ℕ). set l i (value x)) (sym (each xs))

  pub values-at : (xs : List A) (i : ℕ) (d : A) → i < length xs → get_or (values xs) i 0 ≡ value (get_or xs i d)
  values-at xs i d h = ap (λ (l : List ℕ). get_or l i 0) (each xs) ∙ get_or-map value xs i d 0 h

-- part i of a slice that is cut into parts of k
parts-at : {A : Type 0} (k n i : ℕ) (xs : List A) (d : List A) → i < n → get_or (first_chunks k n xs) i d ≡ take k (drop (k * i) xs)
parts-at k zero i xs d h = absurd (not-suc-le-zero h)
parts-at k (suc n) zero xs d h = rw mul-zero
parts-at k (suc n) (suc i) xs d h =
    let e : k + k * i ≡ k * suc i = rw mul-suc (omega arith) in
    rw (← e, ← drop-drop (k * i) k xs) (parts-at k n i (drop k xs) d (le_of_suc-le-suc h))

pub part-at : {A : Type 0} (k n i : ℕ) (xs : List A) {parts : List (List A)} {x : List A} → parts ≡ first_chunks k n xs → i < n → x ≡ get_or parts i x
    → x ≡ take k (drop (k * i) xs)
part-at k n i xs {parts} {x} e h is = is ∙ ap (λ (l : List (List _)). get_or l i x) e ∙ parts-at k n i xs x h
