-- Laws of grids and 16-bit lists as bytes, over any width k.
use Prim.Native.Nat.{ℕ, ◌+◌, ◌*◌, ◌/◌, ◌%◌, ◌^◌, ◌<◌, ◌≤◌}
use mathlib.Core.Path.{◌≡◌, refl}
use mathlib.Core.Logic.{◌↔◌}
use mathlib.Core.Bool.{Bool, true, false, not, ◌&&◌, ◌||◌, cond}
use mathlib.Core.List.{List}
use native.Mathlib.Nat.{mul-div-le, div-le_of_le-mul, div-add-mod, mul-mod_right, mul-div_right, mul-le-mul_left, mul-zero}
use native.Mathlib.Omega.{arith}
use borrow.Author.Tests.{eqb-true, ltb-true, ltb-false, lt-leb, le-leb, eq-eqb}
use lib.Dec.{leb, ltb, eqb}
use lib.ListN.{length}
use Rattle.carry.specs.Carried.{numbers_of, bytes_of, loaded}
use Rattle.carry.specs.Bytes.{count_of, carried_by, LoadedFrom}
use Rattle.carry.proofs.Laws.{numbers-length, bytes-length, loaded-front}
use Rattle.carry.proofs.RoundTrip.{Below, numbers-round}

module _ (k most : ℕ) (g : List ℕ) where
  -- what is carried fits the bytes
  pub carried-fits : k * length (carried_by k most g) ≤ length g
  unfolding count_of carried_by
  carried-fits = rw (numbers-length k (count_of k most g) g) (by (eqb (length g % k) 0 && leb (length g) (k * most)))
    where
      by : (b : Bool) → k * cond b (length g / k) 0 ≤ length g
      by true = mul-div-le (length g) k
      by false = rw (mul-zero k) (omega arith)

  -- the test that the bytes are no buffer's
  abbrev pub misfit : Bool
  misfit = not (eqb (length g % k) 0) || ltb (k * most) (length g)

  none : misfit ≡ true → count_of k most g ≡ 0
  unfolding count_of
  none = by (eqb (length g % k) 0) (ltb (k * most) (length g)) refl
    where
      by : (a b : Bool) → ltb (k * most) (length g) ≡ b → (not a || b) ≡ true → cond (a && leb (length g) (k * most)) (length g / k) 0 ≡ 0
      by false b e h = refl
      by true true e h = rw (lt-leb _ _ (ltb-true (k * most) (length g) e))
      by true false e h = let z : ◌≡◌ {A = ℕ} 0 1 = cc in absurd (omega arith)

  whole : misfit ≡ false → (count_of k most g ≡ length g / k) × (length g ≤ k * most)
  unfolding count_of
  whole = by (eqb (length g % k) 0) (ltb (k * most) (length g)) refl
    where
      by : (a b : Bool) → ltb (k * most) (length g) ≡ b → (not a || b) ≡ false → (cond (a && leb (length g) (k * most)) (length g / k) 0 ≡ length g / k) × (length g ≤ k * most)
      by false b e h = let z : ◌≡◌ {A = ℕ} 0 1 = cc in absurd (omega arith)
      by true true e h = let z : ◌≡◌ {A = ℕ} 0 1 = cc in absurd (omega arith)
      by true false e h = let l = ltb-false (k * most) (length g) e in (rw (le-leb _ _ l), l)

  pub loaded-none : misfit ≡ true → (numbers : List ℕ) → LoadedFrom k most (length numbers) g 0 numbers
  unfolding carried_by numbers_of
  loaded-none t numbers = record { few = omega arith; long = refl; loaded = rw (none t) }

  -- into an array with room for the bytes of every such buffer, or for these
  module _ {size : ℕ} (room : length g ≤ k * most → length g ≤ k * size) (t : misfit ≡ false) where
    pub whole-few : length g / k ≤ size
    whole-few = div-le_of_le-mul k (room (whole t).1)

    pub loaded-whole : (old numbers : List ℕ) → length numbers ≡ size → numbers ≡ loaded k g old → LoadedFrom k most size g (length g / k) numbers
    unfolding carried_by
    loaded-whole old numbers l e = record { few = whole-few; long = l; loaded = rw (whole t).0 (loaded-front k g old numbers e) }

  -- A buffer of m numbers: its length is right in numbers exactly where it is in bytes.
  count-is : {m : ℕ} → 0 < k → m ≤ most → length g ≡ k * m → count_of k most g ≡ m
  unfolding count_of
  count-is {m} pos high e = rw (e, eq-eqb _ _ (mul-mod_right k m), le-leb _ _ (mul-le-mul_left k high)) (mul-div_right m pos)

  pub same_length : (m : ℕ) → 0 < k → 1 ≤ m → m ≤ most → (length (carried_by k most g) ≡ m) ↔ (length g ≡ k * m)
  unfolding count_of carried_by
  same_length m pos low high = rw (numbers-length k (count_of k most g) g) (to (eqb (length g % k) 0) (leb (length g) (k * most)) refl, count-is pos high)
    where
      to : (a b : Bool) → eqb (length g % k) 0 ≡ a → cond (a && b) (length g / k) 0 ≡ m → length g ≡ k * m
      to true true ea e =
          let d : k * (length g / k) + length g % k ≡ length g = div-add-mod (length g) k in
          let z : length g % k ≡ 0 = eqb-true (length g % k) 0 ea in
          rw (← e) (omega arith)
      to true false ea e = absurd (omega arith)
      to false b ea e = absurd (omega arith)

-- numbers to bytes and back
pub carried-round : (k most : ℕ) (xs : List ℕ) → 0 < k → length xs ≤ most → Below (256 ^ k) xs → carried_by k most (bytes_of k xs) ≡ xs
unfolding carried_by
carried-round k most xs pos few below = rw (count-is k most (bytes_of k xs) pos few (bytes-length k xs)) (numbers-round k xs below)
