-- The promise of coarsest on bytes: it follows from the call's equation.
use Prim.Native.Nat.{ℕ, ◌<◌, ◌≤◌, ◌^◌}
use native.Mathlib.Omega.{arith}
use mathlib.Core.Path.{◌≡◌, refl, sym, ap, ◌∙◌}
use mathlib.Core.Logic.{⊎_elim}
use mathlib.Core.List.{List}
use Rattle.lts.specs.System.{Rel, Lts}
use Rattle.lts.specs.Refinement.{block, representative, representatives as representatives_of, coarsest}
use Rattle.lts.specs.declared.Refusal.{Refusal}
use Rattle.lts.specs.Rule.{Rule, First, broken, Reply, refused}
use Rattle.lts.proofs.Rule.{finding, refuses, passes, when-broken, when-kept, numbered}
use Rattle.encoding.specs.Records.{header_of}
use Rattle.encoding.specs.Denotation.{lts_of}
use Rattle.relation.specs.Matrix.{relation_of, matrix_of}
use Rattle.relation.proofs.Matrices.{matrix-small, length-matrix_of, words-matrix}
use Rattle.lts.proofs.Below.{length-list_below, get_or-list_below, lowest-le}
use Rattle.carry.specs.Carried.{list_of, bytes_of}
use Rattle.carry.specs.Bytes.{words_of, state_numbers}
use Rattle.carry.proofs.RoundTrip.{Below}
use Rattle.carry.proofs.Bytes.{carried-round}
use Rattle.coarsest.specs.Call.{CoarsestOutcome, coarsest_rules, refined, coarsest_call}
use Rattle.coarsest.proofs.Promise.{promised}
use Rattle.coarsest_bytes.specs.Call.{carried_back, coarsest_on_bytes, CoarsestBytesPromise}
use Rattle.coarsest_bytes.specs.Carried.{coarsest_on_words}
use Rattle.coarsest_bytes.proofs.Laws.{bounds}

-- a grid and a list of representatives are read back from their bytes
module _ (n : ℕ) (few : n ≤ 256) (K : Rel) where
  words_back : words_of (bytes_of 8 (matrix_of n K)) ≡ matrix_of n K
  words_back = carried-round 8 1024 (matrix_of n K) (omega arith) (rw (length-matrix_of n K) (matrix-small n few)) (λ j _. words-matrix n K j)

  numbers-back : (L : Lts) → L.states ≡ n → state_numbers (bytes_of 2 (representatives_of L K)) ≡ representatives_of L K
  unfolding representatives_of representative
  numbers-back L size = carried-round 2 256 (representatives_of L K) (omega arith) (rw (length-list_below L.states (representative L K)) (omega arith)) below
    where
      below : Below (256 ^ 2) (representatives_of L K)
      below p l =
          let h : p < L.states = rw (length-list_below L.states (representative L K)) at l in
          rw (get_or-list_below 0 L.states (representative L K) p h) (omega (arith, lowest-le L.states (block K p)))

module _ (s start schedule grid₀ representatives₀ : List ℕ) (reply : Reply) (grid representatives : List ℕ)
    (is : coarsest_on_bytes s start schedule grid₀ representatives₀ ≡ record { reply = reply; grid = grid; representatives = representatives }) where
  abbrev rules : List Rule
  rules = coarsest_rules s (words_of start) (words_of grid₀) (state_numbers representatives₀)

  abbrev outcome : CoarsestOutcome
  outcome = record { reply = reply; grid = grid; representatives = representatives }

  stopped : {r : Refusal} → broken rules ≡ First r → outcome ≡ record { reply = refused r; grid = grid₀; representatives = representatives₀ }
  unfolding coarsest_on_bytes
  stopped e = when-broken rules _ _ is e

  -- the call on the numbers that the bytes carry
  on-numbers : coarsest_call s (words_of start) (list_of schedule) (words_of grid₀) (state_numbers representatives₀)
      ≡ record { reply = reply; grid = words_of grid; representatives = state_numbers representatives }
  unfolding coarsest_on_bytes coarsest_call carried_back refined lts_of
  on-numbers = ⊎_elim
      (λ k.
      let f = when-kept rules _ _ is k in
      let K = (coarsest (lts_of s) (relation_of (header_of s).states (words_of start)) (list_of schedule)).final.related in
      let few = (bounds s (words_of start) _ _ k).states in
      let g : words_of grid ≡ matrix_of (header_of s).states K = ap (λ (o : CoarsestOutcome). words_of o.grid) f ∙ words_back (header_of s).states few K in
      let r : state_numbers representatives ≡ representatives_of (lts_of s) K
      = ap (λ (o : CoarsestOutcome). state_numbers o.representatives) f ∙ numbers-back (header_of s).states few K (lts_of s) refl in
      passes rules _ _ k ∙ (rw (ap (λ (o : CoarsestOutcome). o.reply) f, g, r)))
      (λ q. let f = stopped q.1 in
      refuses rules _ _ q.1 ∙ (rw (ap (λ (o : CoarsestOutcome). o.reply) f, ap (λ (o : CoarsestOutcome). o.grid) f, ap (λ (o : CoarsestOutcome). o.representatives) f)))
      (finding rules)

  unwritten : (r : Refusal) → reply ≡ refused r → (grid ≡ grid₀) × (representatives ≡ representatives₀)
  unfolding coarsest_on_bytes carried_back refined
  unwritten r e = ⊎_elim
      (λ k. absurd (numbered r (sym (ap (λ (o : CoarsestOutcome). o.reply.refusal) (when-kept rules _ _ is k)) ∙ ap (λ (x : Reply). x.refusal) e)))
      (λ q. let f = stopped q.1 in (ap (λ (o : CoarsestOutcome). o.grid) f, ap (λ (o : CoarsestOutcome). o.representatives) f))
      (finding rules)

  pub bytes-promised : CoarsestBytesPromise s start schedule grid₀ representatives₀ reply grid representatives
  bytes-promised = record { carried = promised s (words_of start) (list_of schedule) (words_of grid₀) (state_numbers representatives₀) reply (words_of grid) (state_numbers representatives) on-numbers; stays = unwritten }

-- by the start's words and the schedule's numbers
pub meets : {s start schedule grid₀ representatives₀ grid representatives : List ℕ} {reply : Reply}
    → coarsest_on_words s (words_of start) (list_of schedule) grid₀ representatives₀ ≡ record { reply = reply; grid = grid; representatives = representatives }
    → (coarsest_on_bytes s start schedule grid₀ representatives₀ ≡ record { reply = reply; grid = grid; representatives = representatives })
    × CoarsestBytesPromise s start schedule grid₀ representatives₀ reply grid representatives
unfolding coarsest_on_bytes coarsest_on_words
meets {s} {start} {schedule} {grid₀} {representatives₀} {grid} {representatives} {reply} e = (e, bytes-promised s start schedule grid₀ representatives₀ reply grid representatives e)
