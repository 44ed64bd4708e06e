-- The pair of the last entry, and what check plan comes to, by its rules.
use Prim.Native.Nat.{ℕ, zero, suc, ◌+◌, ◌*◌, ◌-◌, ◌/◌, ◌≤◌}
use mathlib.Core.Path.{◌≡◌, refl, sym, ◌∙◌, ap}
use mathlib.Core.Bool.{Bool, true, false, not}
use mathlib.Core.List.{List, [], ◌∷◌}
use native.Mathlib.Omega.{arith}
use lib.ListN.{length, get_or}
use Rattle.lts.specs.Bounded.{list_below}
use Rattle.lts.specs.System.{Rel, Lts}
use Rattle.lts.specs.declared.Entry.{Entry}
use Rattle.lts.specs.Strategy.{accepted, entries_of, last_of}
use Rattle.lts.specs.Depth.{depth_of}
use Rattle.lts.specs.declared.Refusal.{Refusal}
use Rattle.lts.specs.declared.Refusal.TheVariants.{Unsound}
use Rattle.lts.specs.Rule.{◌otherwise◌, Nothing, First, broken}
use Rattle.lts.proofs.Rule.{stop, pass, done, first_part, second-part, refuses, passes}
use Rattle.encoding.specs.Records.{header_of}
use Rattle.encoding.specs.Denotation.{lts_of}
use Rattle.relation.specs.Matrix.{relation_of}
use Rattle.lts.proofs.Below.{clash}
use Rattle.inputs.specs.Inputs.{input_rules}
use Rattle.strategy_check.specs.Entries.{entry_of}
use Rattle.strategy_check.proofs.Entries.{entries_below, accepted-none}
use Rattle.strategy.specs.declared.Accepted.{Accepted}
use Rattle.strategy.specs.Check.{accepted_with, check_reply, check_rules, check_call}
use Rattle.std.specs.Prelude.{Err}

-- an accepted list is not empty
pub accepted-long : (L : Lts) (start : Rel) (xs : List ℕ) → accepted L start (entries_of xs) ≡ true → 4 ≤ length xs
accepted-long L start xs e = go (length xs / 4) refl
  where
    go : (n : ℕ) → length xs / 4 ≡ n → 4 ≤ length xs
    go zero z = absurd (clash e (accepted-none L start xs z))
    go (suc n) z = omega (arith, z)

last-below : (n : ℕ) (f : ℕ → Entry) → last_of (list_below (suc n) f) ≡ f n
unfolding last_of list_below
last-below zero f = refl
last-below (suc n) f = last-below n (λ i. f (suc i))

last-is : (xs : List ℕ) → 4 ≤ length xs → last_of (entries_of xs) ≡ entry_of xs (length xs / 4 - 1)
last-is xs h =
    let n : length xs / 4 ≡ suc (length xs / 4 - 1) = omega (arith, h) in
    ap last_of (entries_below xs ∙ ap (λ (k : ℕ). list_below k (entry_of xs)) n) ∙ last-below (length xs / 4 - 1) (entry_of xs)

pub last-read : (xs : List ℕ) (depth : ℕ) → 4 ≤ length xs
    → ◌≡◌ {A = Accepted} (record { p = get_or xs (4 * (length xs / 4 - 1)) 0; q = get_or xs (4 * (length xs / 4 - 1) + 1) 0; depth = depth })
    (record { p = (last_of (entries_of xs)).p; q = (last_of (entries_of xs)).q; depth = depth })
unfolding entry_of
last-read xs depth h = ap (λ (v : Entry). record { p = v.p; q = v.q; depth = depth }) (sym (last-is xs h))

-- ## What the call comes to, down the table
module _ (s start : List ℕ) (entries : List Entry) where
  pub unready : {r : Refusal} → broken (input_rules s start) ≡ First r → check_call s start entries ≡ check_reply (Err r)
  unfolding check_rules check_call check_reply
  unready e = refuses _ _ _ (first_part _ _ e)

  -- with a sheet and a start, and b for the test of the entries
  module _ (n : ℕ) (size : n ≡ (header_of s).states) (kept : broken (input_rules s start) ≡ Nothing) {b : Bool} (test : b ≡ accepted (lts_of s) (relation_of n start) entries) where
    left : broken (check_rules s start entries) ≡ broken (accepted (lts_of s) (relation_of n start) entries otherwise Unsound ∷ [])
    unfolding check_rules
    left = rw size (second-part _ _ kept)

    pub unsound : not b ≡ true → check_call s start entries ≡ check_reply (Err Unsound)
    unfolding check_call check_reply
    unsound t = refuses _ _ _ (stop _ _ _ left test t)

    pub accepts : {x y z : ℕ} → not b ≡ false → x ≡ (last_of entries).p → y ≡ (last_of entries).q → z ≡ depth_of (lts_of s) entries
        → check_call s start entries ≡ check_reply (accepted_with x y z)
    unfolding check_call check_reply
    accepts t x y z = rw (x, y, z) (passes _ _ _ (done (pass _ _ _ left test t)))
