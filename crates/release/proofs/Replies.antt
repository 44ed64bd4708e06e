-- The replies of the calls, packed and unpacked again, and what an export says of its result.
use Prim.Native.Nat.{ℕ, ◌+◌, ◌*◌, ◌^◌, ◌<◌, ◌≤◌}
use native.Mathlib.Omega.{arith}
use mathlib.Core.Path.{◌≡◌, sym, ap, subst, ◌∙◌}
use mathlib.Core.Bool.{Bool, true, false, cond}
use mathlib.Core.List.{List, [], ◌∷◌}
use Rattle.std.specs.Prelude.{Ok, Err}
use Rattle.std.specs.Int.{from_bool}
use Rattle.lts.specs.declared.Refusal.{Refusal}
use Rattle.lts.specs.Refusal.{refusal_number, refusal_record}
use Rattle.lts.specs.Rule.{Reply, refused, given, checked_reply, Answer}
use Rattle.simulation.specs.Calls.{simulation_reply}
use Rattle.game.specs.Play.{play_reply}
use Rattle.comparison.specs.declared.Comparison.{Comparison}
use Rattle.comparison.specs.Call.{compare_reply}
use Rattle.disjoint_union.specs.Join.{join_reply}
use Rattle.strategy.specs.Write.{write_reply}
use Rattle.coarsest.specs.declared.Counts.{Counts}
use Rattle.coarsest.specs.Call.{coarsest_reply}
use Rattle.coarsest_bytes.specs.Carried.{Small}
use Rattle.release.specs.Packed.{placed, packed, unpacked, coarsest_places, compare_places, check_places, one_place, no_place}
use Rattle.release.proofs.Packing.{last, more, unpack-refused, unpack-none, unpack-given}

-- a reply that is unpacked from the number that it is packed into
abbrev pub Kept : List ℕ → Reply → Type 0
Kept places reply = unpacked places (packed places reply) ≡ reply

-- what an export says: its result unpacks to the reply, and is that reply packed
module _ (places : List ℕ) {reply : Reply} {x : ℕ} (packs : x ≡ packed places reply) (kept : Kept places reply) where
  pub carried : reply ≡ unpacked places x
  carried = sym kept ∙ ap (unpacked places) (sym packs)

  pub exact : x ≡ packed places (unpacked places x)
  exact = packs ∙ ap (packed places) carried

-- the call's equation and its promise, of the reply that the result unpacks to; the outcome is made of the reply and the buffers afterwards
pub left : {A : Type 0} (places : List ℕ) (outcome : Reply → A) {call : A} {reply : Reply} {x : ℕ} (Promise : Reply → Type 0)
    → call ≡ outcome reply → Promise reply → x ≡ packed places reply → Kept places reply
    → (call ≡ outcome (unpacked places x)) × ((x ≡ packed places (unpacked places x)) × Promise (unpacked places x))
left places outcome Promise e p packs kept =
    let c = carried places packs kept in (e ∙ ap outcome c, (exact places packs kept, subst Promise c p))

-- with no buffer the outcome is the reply
pub exported : (places : List ℕ) {call reply : Reply} {x : ℕ} (Promise : Reply → Type 0) → call ≡ reply → Promise reply → x ≡ packed places reply → Kept places reply
    → (call ≡ unpacked places x) × ((x ≡ packed places (unpacked places x)) × Promise (unpacked places x))
exported places = left places (λ y. y)

-- a number that packs one answer's reply packs an equal answer's
pub packs-same : {A : Type 0} (places : List ℕ) (reply : A → Reply) {a b : A} {x : ℕ} → a ≡ b → x ≡ packed places (reply b) → x ≡ packed places (reply a)
packs-same places reply e q = q ∙ ap (λ y. packed places (reply y)) (sym e)

pub kept_same : {A : Type 0} (places : List ℕ) (reply : A → Reply) {a b : A} → a ≡ b → Kept places (reply b) → Kept places (reply a)
kept_same places reply e k = subst (λ y. Kept places (reply y)) (sym e) k

-- a refusal is the same number at any places
pub refused-packed : (places : List ℕ) (r : Refusal) → refusal_number r + 256 * refusal_record r ≡ packed places (refused r)
unfolding packed placed
refused-packed [] r = omega arith
refused-packed (p ∷ places) r = omega arith

-- ## Each answer's reply
pub checked-kept : (a : Answer (Unit {0})) → Kept no_place (checked_reply a)
unfolding checked_reply
checked-kept (Ok tt) = unpack-none
checked-kept (Err r) = unpack-refused no_place r

pub tested-kept : (a : Answer Bool) → Kept one_place (simulation_reply a)
unfolding simulation_reply
tested-kept (Ok b) = unpack-given (last 8 (cond b 1 0))
tested-kept (Err r) = unpack-refused one_place r

pub played-kept : (a : Answer Bool) → Kept one_place (play_reply a)
unfolding play_reply
played-kept (Ok b) = unpack-given (last 8 (cond b 1 0))
played-kept (Err r) = unpack-refused one_place r

pub joined-kept : (a : Answer ℕ) → Kept one_place (join_reply a)
unfolding join_reply
joined-kept (Ok count) = unpack-given (last 8 count)
joined-kept (Err r) = unpack-refused one_place r

pub written-kept : (a : Answer ℕ) → Kept one_place (write_reply a)
unfolding write_reply
written-kept (Ok count) = unpack-given (last 8 count)
written-kept (Err r) = unpack-refused one_place r

bit-low : (b : Bool) → cond b 1 0 < 2 ^ 8
bit-low true = omega arith
bit-low false = omega arith

pub compared-kept : (a : Answer Comparison) → Kept compare_places (compare_reply a)
unfolding compare_reply
compared-kept (Ok c) = unpack-given (more 8 8 (cond c.related 1 0) [] (c.steps ∷ []) (bit-low c.related) (last 16 c.steps))
compared-kept (Err r) = unpack-refused compare_places r

pub check-kept : (p q depth : ℕ) → p < 65536 → q < 65536 → Kept check_places (given (p ∷ q ∷ depth ∷ []))
check-kept p q depth l m = unpack-given (more 8 16 p (40 ∷ []) (q ∷ depth ∷ []) l (more 24 16 q [] (depth ∷ []) m (last 40 depth)))

pub count_kept : (count : ℕ) → Kept one_place (given (count ∷ []))
count_kept count = unpack-given (last 8 count)

pub counts-kept : (c : Counts) → Small c → Kept coarsest_places (coarsest_reply (Ok c))
unfolding coarsest_reply
counts-kept c s =
    let a : c.steps < 65536 = omega (arith, s.steps) in
    let b : c.pairs < 16777216 = omega (arith, s.pairs) in
    unpack-given (more 8 16 c.steps (48 ∷ []) (c.pairs ∷ c.blocks ∷ []) a (more 24 24 c.pairs [] (c.blocks ∷ []) b (last 48 c.blocks)))

-- ## The numbers as the code has them
pub counts-packed : (c : Counts) → 256 * c.steps + 16777216 * c.pairs + 281474976710656 * c.blocks ≡ packed coarsest_places (coarsest_reply (Ok c))
unfolding packed placed coarsest_reply
counts-packed c = omega arith

pub one-packed : (v : ℕ) → 256 * v ≡ packed one_place (given (v ∷ []))
unfolding packed placed
one-packed v = omega arith

pub compared-packed : (value steps : ℕ) → 256 * value + 65536 * steps ≡ packed compare_places (given (value ∷ steps ∷ []))
unfolding packed placed
compared-packed value steps = omega arith

pub no-packed : (steps : ℕ) → 65536 * steps ≡ packed compare_places (given (0 ∷ steps ∷ []))
no-packed steps = omega (arith, compared-packed 0 steps)

pub compared-bit : (b : Bool) (steps : ℕ) → 256 * from_bool b + 65536 * steps ≡ packed compare_places (given (cond b 1 0 ∷ steps ∷ []))
compared-bit true steps = compared-packed 1 steps
compared-bit false steps = compared-packed 0 steps

-- at most 1
pub bit-most : (b : Bool) {x : ℕ} → x ≡ from_bool b → x ≤ 1
bit-most true e = omega (arith, e)
bit-most false e = omega (arith, e)

pub decided-packed : (b : Bool) → 256 * from_bool b ≡ packed one_place (given (cond b 1 0 ∷ []))
decided-packed true = one-packed 1
decided-packed false = one-packed 0

pub check-packed : (p q depth : ℕ) → 256 * p + 16777216 * q + 1099511627776 * depth ≡ packed check_places (given (p ∷ q ∷ depth ∷ []))
unfolding packed placed
check-packed p q depth = omega arith
