-- F1 to F6 of document 01, the ready start of document 02's L6 and the depths of its L8, computed from the definitions, and the smallest
-- systems that tell the refinement rule from four near misses.
use Prim.Native.Nat.{ℕ}
use mathlib.Core.Bool.{Bool, true, false, not, ◌&&◌, ◌||◌, xor}
use mathlib.Core.List.{List, [], ◌∷◌}
use lib.Dec.{T, eqb}
use Rattle.lts.specs.Bounded.{any_below, all_below, sum_below, largest_below, count_below, passing, concat_below, lowest, restrict}
use Rattle.lts.specs.System.{Lts, all_states, any_state, all_actions, any_action, into, termination_preorder, answered}
use Rattle.lts.specs.Refinement.{run, step, step_of, each_action, chosen, pending, is_representative, representative, block, coarsest, initial, pair_count, block_count, refine, split, prune, remove}
use Rattle.lts.specs.Rounds.{round, refuted_at, refutation_round}
use Rattle.lts.specs.Strategy.{holds, sound, all_sound, accepted, entry_at, unanswered, entries_in, entries_before, strategy_at, strategy, entry_numbers, entries_of}
use Rattle.lts.specs.Depth.{depths_at, least, least_depth, depth_over, measure, measured, first_depth, depth_of}
use Rattle.lts.specs.Game.{defender_loses, challenger_wins}
use Rattle.lts.specs.Union.{disjoint_union, comparison, simulated}
use Rattle.lts.specs.Ready.{same_actions, ready_preorder}

-- the transitions of a list
listed : List (ℕ × ℕ × ℕ) → ℕ → ℕ → ℕ → Bool
listed [] p a t = false
listed (x ∷ xs) p a t = eqb x.0 p && eqb x.1 a && eqb x.2 t || listed xs p a t

-- n states, m actions and the transitions of a list; state `mark` alone terminates (none where it is n)
system : ℕ → ℕ → ℕ → List (ℕ × ℕ × ℕ) → Lts
system n m mark xs = record { states = n; actions = m; terminating = eqb mark; transition = listed xs }

F1 : Lts
F1 = system 1 0 1 []

F2 : Lts
F2 = system 2 1 2 ((0, 1, 1) ∷ (1, 1, 0) ∷ [])

F3 : Lts
F3 = system 3 1 3 ((0, 1, 1) ∷ (2, 1, 2) ∷ [])

F4 : Lts
F4 = system 4 1 4 ((0, 1, 1) ∷ (1, 1, 2) ∷ (2, 1, 3) ∷ [])

-- steps, pairs and blocks of the run inside the termination preorder
gives : Lts → List ℕ → ℕ → ℕ → ℕ → Bool
gives L schedule steps pairs blocks =
    let r = coarsest L (termination_preorder L) schedule in
    eqb r.steps steps && eqb (pair_count L r.final.related) pairs && eqb (block_count L r.final.related) blocks

same_numbers : List ℕ → List ℕ → Bool
same_numbers [] [] = true
same_numbers [] (y ∷ ys) = false
same_numbers (x ∷ xs) [] = false
same_numbers (x ∷ xs) (y ∷ ys) = eqb x y && same_numbers xs ys

-- the numbers of F5's strategy
five : List ℕ
five = 0 ∷ 1 ∷ 1 ∷ 1 ∷ 2 ∷ 1 ∷ 1 ∷ 2 ∷ 2 ∷ 0 ∷ 1 ∷ 2 ∷ []

accepts : List ℕ → Bool
accepts xs = accepted F3 (termination_preorder F3) (entries_of xs)

wins : ℕ → Bool
wins k = challenger_wins F3 (termination_preorder F3) k 2 0

-- F1 to F4; F5: the written strategy, which is accepted, with its first entry or without, and not its last alone, no entry, or an entry
-- that cites itself;
-- F6: the game. Then a system each that the rule with single pairs dropped in step 3, with Y recomputed between actions, with position e
-- and not e mod c, and with V not set would give other numbers for.
cases : T
    (gives F1 [] 0 1 1 && gives F2 [] 0 4 1 && gives F3 [] 2 6 3 && gives F4 [] 3 10 4
    && same_numbers (entry_numbers (strategy F3 (termination_preorder F3) 2 0)) five && accepts five && not (accepts [])
    && not (accepts (2 ∷ 0 ∷ 1 ∷ 2 ∷ [])) && accepts (2 ∷ 1 ∷ 1 ∷ 2 ∷ 2 ∷ 0 ∷ 1 ∷ 2 ∷ []) && not (accepts (2 ∷ 2 ∷ 1 ∷ 2 ∷ []))
    && not (wins 1) && wins 2
    && gives (system 4 1 3 ((0, 1, 2) ∷ (2, 1, 3) ∷ (3, 1, 1) ∷ [])) [] 5 7 4
    && gives (system 3 2 3 ((0, 2, 0) ∷ (0, 2, 2) ∷ (1, 1, 2) ∷ (2, 1, 0) ∷ [])) (5 ∷ []) 4 3 3
    && gives (system 2 1 2 ((1, 1, 1) ∷ [])) (5 ∷ []) 1 3 2)
unfolding listed system gives same_numbers five accepts wins F1 F2 F3 F4 any_below all_below sum_below count_below passing concat_below lowest restrict all_states any_state all_actions any_action into termination_preorder answered run step step_of each_action chosen pending is_representative representative block coarsest initial pair_count block_count refine split prune remove round refuted_at refutation_round holds sound all_sound accepted entry_at unanswered entries_in entries_before strategy_at strategy entry_numbers entries_of defender_loses challenger_wins xor
cases = tt

-- ---- L6

-- 0 offers action 1, as 1 does by two transitions; 2 offers 1 and 2, 3 offers 2; 4, 5 and 6 offer none, and 6 terminates
R : Lts
R = system 7 2 6 ((0, 1, 4) ∷ (1, 1, 4) ∷ (1, 1, 5) ∷ (2, 1, 4) ∷ (2, 2, 4) ∷ (3, 2, 4) ∷ [])

-- alike are 0 and 1, and 4 and 5; both of the latter are below 6 and not above it. Every other pair of two states is outside: neither a set
-- with more actions nor one with as many will do. Under it F3 keeps the three pairs of a state with itself, and its first state is a yes over
-- F2 of the older form alone.
ready-cases : T
    (eqb (pair_count R (ready_preorder R)) 13
    && ready_preorder R 0 1 && ready_preorder R 1 0 && ready_preorder R 4 5 && ready_preorder R 5 4 && ready_preorder R 4 6 && ready_preorder R 5 6
    && eqb (pair_count F3 (ready_preorder F3)) 5 && eqb (pair_count F3 (coarsest F3 (ready_preorder F3) []).final.related) 3
    && simulated termination_preorder F3 F2 && not (simulated ready_preorder F3 F2) && simulated ready_preorder F2 F2)
unfolding listed system F2 F3 R any_below all_below sum_below count_below passing lowest restrict all_states any_state all_actions into termination_preorder run step step_of each_action chosen pending is_representative representative block coarsest initial pair_count refine split prune remove xor disjoint_union comparison simulated same_actions ready_preorder
ready-cases = tt

-- ---- L8

-- (0, 2) falls at round 1, by 0, 2, 1, since 2 has no transition by 2; by 0, 1, 1 it takes a round more
D : Lts
D = system 6 2 6 ((0, 1, 1) ∷ (0, 2, 1) ∷ (1, 1, 1) ∷ (2, 1, 3) ∷ (4, 1, 0) ∷ (5, 1, 2) ∷ [])

-- the replies to 0, 1, 1 from 2 are 3, with (1, 3) outside the preorder, and 4, with (1, 4) at depth 1
E : Lts
E = system 5 2 1 ((0, 1, 1) ∷ (1, 2, 1) ∷ (2, 1, 3) ∷ (2, 1, 4) ∷ [])

deep : Lts → List ℕ → ℕ → Bool
deep L xs d = accepted L (termination_preorder L) (entries_of xs) && eqb (depth_of L (entries_of xs)) d

-- F5 has depth 2, its first entry alone 1; an entry with a = 0 has 0. In D an entry for (0, 2) has depth 2, deeper than the written one,
-- which has 1. One that cites (0, 2) counts the least of the two, whichever stands first; the last entry's depth counts, not the deepest's.
-- In E the largest over two replies counts.
depth-cases : T
    (deep F3 five 2 && deep F3 (0 ∷ 1 ∷ 1 ∷ 1 ∷ []) 1 && deep (system 2 0 0 []) (0 ∷ 1 ∷ 0 ∷ 0 ∷ []) 0
    && deep D (1 ∷ 3 ∷ 1 ∷ 1 ∷ 0 ∷ 2 ∷ 1 ∷ 1 ∷ []) 2 && deep D (0 ∷ 2 ∷ 2 ∷ 1 ∷ []) 1
    && deep D (1 ∷ 3 ∷ 1 ∷ 1 ∷ 0 ∷ 2 ∷ 1 ∷ 1 ∷ 4 ∷ 5 ∷ 1 ∷ 0 ∷ []) 3
    && deep D (1 ∷ 3 ∷ 1 ∷ 1 ∷ 0 ∷ 2 ∷ 1 ∷ 1 ∷ 0 ∷ 2 ∷ 2 ∷ 1 ∷ 4 ∷ 5 ∷ 1 ∷ 0 ∷ []) 2
    && deep D (0 ∷ 2 ∷ 2 ∷ 1 ∷ 1 ∷ 3 ∷ 1 ∷ 1 ∷ 0 ∷ 2 ∷ 1 ∷ 1 ∷ 4 ∷ 5 ∷ 1 ∷ 0 ∷ []) 2
    && deep D (1 ∷ 3 ∷ 1 ∷ 1 ∷ 0 ∷ 2 ∷ 1 ∷ 1 ∷ 0 ∷ 2 ∷ 2 ∷ 1 ∷ []) 1
    && deep E (1 ∷ 3 ∷ 0 ∷ 0 ∷ 1 ∷ 4 ∷ 2 ∷ 1 ∷ 0 ∷ 2 ∷ 1 ∷ 1 ∷ []) 2)
unfolding listed system F3 five D E deep any_below all_below largest_below all_states termination_preorder holds sound all_sound accepted entries_of depths_at least least_depth depth_over measure measured first_depth depth_of
depth-cases = tt
