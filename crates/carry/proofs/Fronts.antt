-- What is read of a schedule: all the numbers that its bytes carry, or the first of them.
use Prim.Native.Nat.{ℕ, ◌*◌, ◌/◌, ◌<◌, ◌≤◌}
use native.Mathlib.Nat.{le_refl}
use native.Mathlib.Omega.{arith}
use mathlib.Core.Path.{◌≡◌, refl, sym, ◌∙◌}
use mathlib.Core.Bool.{Bool, true, false, cond}
use mathlib.Core.List.{List, ◌++◌}
use borrow.Author.Tests.{ltb-true, ltb-false}
use lib.Dec.{ltb}
use lib.ListN.{length, take, drop}
use lib.Seq.{take_at, take_all, length-take-le, take-length}
use Rattle.carry.specs.Carried.{numbers_of, list_of, loaded}
use Rattle.carry.specs.Bytes.{LoadedSchedule}
use Rattle.carry.proofs.Laws.{numbers-length, numbers-front, numbers-take, loaded-front}

-- all of a schedule
pub schedule-all : (bytes old numbers : List ℕ) → numbers ≡ loaded 2 bytes old → take (length bytes / 2) numbers ≡ list_of bytes
unfolding list_of
schedule-all bytes old numbers e = loaded-front 2 bytes old numbers e

-- all of it, or the first `most` numbers
module _ (most : ℕ) (bytes old numbers : List ℕ) (long : length numbers ≡ most) where
  abbrev cut : ℕ → Type 0
  cut c = numbers ≡ loaded 2 (take c bytes) old → LoadedSchedule most bytes (c / 2) numbers

  cut_all : length bytes ≤ 2 * most → cut (length bytes)
  unfolding list_of
  cut_all h e =
      let all : numbers ≡ loaded 2 bytes old = rw (take-length bytes) at e in
      let n = numbers-length 2 (length bytes / 2) bytes in
      record {
        few = omega arith;
        long = long;
        loaded = schedule-all bytes old numbers all ∙ sym (take_all most (numbers_of 2 (length bytes / 2) bytes) (omega arith));
      }

  cut-front : 2 * most < length bytes → cut (2 * most)
  unfolding loaded list_of
  cut-front h e =
      let half : 2 * most / 2 ≡ most = omega arith in
      let l : length (take (2 * most) bytes) ≡ 2 * most = length-take-le (2 * most) bytes (omega arith) in
      let front : numbers ≡ numbers_of 2 most bytes ++ drop most old = rw (l, half, numbers-front 2 most bytes (omega arith)) at e in
      rw half (record {
        few = le_refl most;
        long = long;
        loaded = rw (front, take_at (numbers_of 2 most bytes) (drop most old) most (numbers-length 2 most bytes)) (sym (numbers-take 2 most (length bytes / 2) bytes (omega arith)));
      })

  pub schedule-cut : (c : ℕ) → c ≡ cond (ltb (2 * most) (length bytes)) (2 * most) (length bytes) → cut c
  schedule-cut c e = rw e (by (ltb (2 * most) (length bytes)) refl)
    where
      by : (b : Bool) → ltb (2 * most) (length bytes) ≡ b → cut (cond b (2 * most) (length bytes))
      by true t = cut-front (ltb-true (2 * most) (length bytes) t)
      by false t = cut_all (ltb-false (2 * most) (length bytes) t)

-- as much fits the buffer
pub cut_fits : (most : ℕ) (bytes : List ℕ) (c : ℕ) → c ≡ cond (ltb (2 * most) (length bytes)) (2 * most) (length bytes) → (c ≤ length bytes) × (c ≤ 2 * most)
cut_fits most bytes c e = rw e (by (ltb (2 * most) (length bytes)) refl)
  where
    by : (b : Bool) → ltb (2 * most) (length bytes) ≡ b → (cond b (2 * most) (length bytes) ≤ length bytes) × (cond b (2 * most) (length bytes) ≤ 2 * most)
    by true t = let l = ltb-true (2 * most) (length bytes) t in (omega arith, omega arith)
    by false t = let l = ltb-false (2 * most) (length bytes) t in (omega arith, omega arith)
