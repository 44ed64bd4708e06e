-- A reply is unpacked from the number that it is packed into, where its values keep to their places.
use Prim.Native.Nat.{ℕ, suc, ◌+◌, ◌*◌, ◌-◌, ◌/◌, ◌%◌, ◌^◌, ◌≤◌, ◌<◌}
use native.Mathlib.Omega.{arith}
use native.Mathlib.Nat.{mul_comm, mul_assoc, mul-le-mul_left, mul-suc, add-mul}
use mathlib.Core.Path.{◌≡◌, refl, ap, ap₂, ◌∙◌}
use mathlib.Core.List.{List, [], ◌∷◌}
use borrow.Author.Tests.{ne_eqb}
use lib.Pow.{pow-add, high, low}
use Rattle.lts.specs.Rule.{given, refused}
use Rattle.lts.specs.Refusal.{refusal_number, refusal_record}
use Rattle.lts.specs.declared.Refusal.{Refusal}
use Rattle.lts.proofs.Rule.{number-some}
use Rattle.release.specs.Packed.{placed, packed, fields, unpacked}

-- each value is below the next one's place
pub data Keeps : List ℕ → List ℕ → Type 0 where
  last : (p v : ℕ) → Keeps (p ∷ []) (v ∷ [])
  more : (p w v : ℕ) (places values : List ℕ) → v < 2 ^ w → Keeps ((p + w) ∷ places) values → Keeps (p ∷ (p + w) ∷ places) (v ∷ values)

-- v at p, and y from p + w on
joined : (p w v y : ℕ) → 2 ^ p * v + y * 2 ^ (p + w) ≡ (y * 2 ^ w + v) * 2 ^ p
joined p w v y = rw (pow-add 2 p w) (omega (arith, mul_comm (2 ^ p) v, mul_assoc y (2 ^ w) (2 ^ p), mul_comm (2 ^ p) (2 ^ w), add-mul (y * 2 ^ w) v (2 ^ p)))

-- what is placed from p on is a multiple of 2 ^ p
shape : {p : ℕ} {places values : List ℕ} → Keeps (p ∷ places) values → (y : ℕ) × (placed (p ∷ places) values ≡ y * 2 ^ p)
unfolding placed
shape (last p v) = (v, omega (arith, mul_comm (2 ^ p) v))
shape (more p w v places values l k) =
    let y = shape k in
    (y.0 * 2 ^ w + v, ap (λ (z : ℕ). 2 ^ p * v + z) y.1 ∙ joined p w v y.0)

-- below the next place
under : (p w v x : ℕ) → v < 2 ^ w → x < 2 ^ p → x + 2 ^ p * v < 2 ^ (p + w)
under p w v x l h =
    let top : 2 ^ p * suc v ≤ 2 ^ p * 2 ^ w = mul-le-mul_left (2 ^ p) l in
    rw (pow-add 2 p w) (omega (arith, mul-suc (2 ^ p) v, top))

pub fields-are : {p : ℕ} {places values : List ℕ} → Keeps (p ∷ places) values → (x : ℕ) → x < 2 ^ p → fields (p ∷ places) (x + placed (p ∷ places) values) ≡ values
unfolding fields placed
fields-are (last p v) x h =
    let e : x + (2 ^ p * v + 0) ≡ v * 2 ^ p + x = omega (arith, mul_comm (2 ^ p) v) in
    ap (λ (z : ℕ). z ∷ []) (ap (λ (z : ℕ). z / 2 ^ p) e ∙ high v p h)
fields-are (more p w v places values l k) x h =
    let y = shape k in
    let e : x + (2 ^ p * v + placed ((p + w) ∷ places) values) ≡ (y.0 * 2 ^ w + v) * 2 ^ p + x = omega (arith, y.1, joined p w v y.0) in
    let width : (p + w) - p ≡ w = omega arith in
    let first : (x + (2 ^ p * v + placed ((p + w) ∷ places) values)) / 2 ^ p % 2 ^ ((p + w) - p) ≡ v =
    rw (width, e, high (y.0 * 2 ^ w + v) p h) (low y.0 w l) in
    let next : x + (2 ^ p * v + placed ((p + w) ∷ places) values) ≡ (x + 2 ^ p * v) + placed ((p + w) ∷ places) values = omega arith in
    ap₂ (λ (a : ℕ) (b : List ℕ). a ∷ b) first (ap (fields ((p + w) ∷ places)) next ∙ fields-are k (x + 2 ^ p * v) (under p w v x l h))

-- a refusal's number and its record's number from bit 8 on
from-refused : (r : Refusal) (x : ℕ) → x ≡ refusal_number r + 256 * refusal_record r → (places : List ℕ) → unpacked places x ≡ refused r
unfolding unpacked
from-refused r x e places =
    let s = number-some r in
    let m : x % 256 ≡ refusal_number r = omega (arith, s, e) in
    let d : x / 256 ≡ refusal_record r = omega (arith, s, e) in
    rw (m, d, ne_eqb (refusal_number r) 0 (λ z. omega (arith, s, z)))

-- a refusal at any places, no value at none, and values that keep to places from bit 8 on
pub unpack-refused : (places : List ℕ) (r : Refusal) → unpacked places (packed places (refused r)) ≡ refused r
unfolding unpacked packed placed
unpack-refused [] r = from-refused r (refusal_number r + 256 * refusal_record r + 0) (omega arith) []
unpack-refused (p ∷ places) r = from-refused r (refusal_number r + 256 * refusal_record r + 0) (omega arith) (p ∷ places)

pub unpack-none : unpacked [] (packed [] (given [])) ≡ given []
unfolding unpacked packed placed fields
unpack-none = refl

pub unpack-given : {places values : List ℕ} → Keeps (8 ∷ places) values → unpacked (8 ∷ places) (packed (8 ∷ places) (given values)) ≡ given values
unfolding unpacked packed
unpack-given {places} {values} k =
    let y = shape k in
    let none : (0 + placed (8 ∷ places) values) % 256 ≡ 0 = rw y.1 (omega arith) in
    rw (none) (ap (λ (v : List ℕ). given v) (fields-are k 0 (omega arith)))
