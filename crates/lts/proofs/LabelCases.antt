-- L2 on two small systems, computed from the definitions: "open" is action 1 of the one and action 2 of the other. And what `JoinedByLabel`
-- refuses: actions matched by number, new labels before the first's, new labels in another order.
use Prim.Native.Nat.{ℕ}
use native.Mathlib.Omega.{arith}
use mathlib.Core.Path.{◌≡◌, refl, ap}
use mathlib.Core.Bool.{false, not, ◌&&◌, ◌||◌, xor}
use mathlib.Core.List.{List, [], ◌∷◌}
use lib.Dec.{T, eqb}
use lib.ListN.{get_or}
use Rattle.lts.specs.Bounded.{any_below, all_below, passing, lowest, restrict}
use Rattle.lts.specs.System.{Lts, all_states, any_state, all_actions, any_action, into, termination_preorder}
use Rattle.lts.specs.Refinement.{run, step, step_of, each_action, chosen, pending, is_representative, representative, block, coarsest, initial}
use Rattle.lts.specs.Refinement.{refine, split, prune, remove}
use Rattle.lts.specs.Mapped.{mapped}
use Rattle.lts.specs.Places.{among, place_in, continued}
use Rattle.lts.specs.Union.{disjoint_union, comparison, simulated}
use Rattle.lts.specs.Labels.{same_label, label_of, action_of, joined_labels, joined_action, joined_second, JoinedByLabel}

-- "open", "shut", "lift"
abbrev opens : List ℕ
opens = 111 ∷ 112 ∷ 101 ∷ 110 ∷ []

abbrev shuts : List ℕ
shuts = 115 ∷ 104 ∷ 117 ∷ 116 ∷ []

abbrev lifts : List ℕ
lifts = 108 ∷ 105 ∷ 102 ∷ 116 ∷ []

-- the first opens once; the second opens and shuts
abbrev A : List (List ℕ)
A = opens ∷ []

abbrev L : Lts
L = record { states = 2; actions = 1; terminating = λ p. false; transition = λ p a t. eqb p 0 && eqb a 1 && eqb t 1 }

abbrev B : List (List ℕ)
B = shuts ∷ opens ∷ []

abbrev M : Lts
M = record {
  states = 2;
  actions = 2;
  terminating = λ p. false;
  transition = λ p a t. eqb p 0 && eqb a 2 && eqb t 1 || eqb p 1 && eqb a 1 && eqb t 0;
}

-- the joined labels, either way, and the joined numbers
labels : (joined_labels A B ≡ opens ∷ shuts ∷ []) × (joined_labels B A ≡ B) × (joined_action A B 1 ≡ 2) × (joined_action A B 2 ≡ 1) × (joined_action B A 1 ≡ 2)
unfolding joined_labels joined_action action_of label_of continued among place_in same_label
labels = (refl, refl, refl, refl, refl)

-- by name the second simulates the first, and not the other way; by number it does not
answers : T
    (simulated termination_preorder L (joined_second A B M) && not (simulated termination_preorder M (joined_second B A L))
    && not (simulated termination_preorder L M))
unfolding simulated comparison disjoint_union joined_second mapped joined_labels joined_action action_of label_of continued among place_in same_label any_below all_below passing lowest restrict all_states any_state all_actions any_action into termination_preorder run step step_of each_action chosen pending is_representative representative block coarsest initial refine split prune remove xor
answers = tt

-- matched by number, whatever the labels: "open" of the second is action 1 of a joined flow, and 2 of the disjoint union
by_number : (J : List (List ℕ)) → JoinedByLabel A L B M J (disjoint_union L M) → ⊥
unfolding disjoint_union label_of
by_number J j = let f = j.front 0 (omega arith) in (j.second_moves 0 1 3 (omega arith)).1 (2, 1, tt, f.1, omega arith, f.0, refl)

new-first : (N U : Lts) → JoinedByLabel A L B N (shuts ∷ opens ∷ []) U → ⊥
new-first N U j = let e : ◌≡◌ {A = ℕ} 115 111 = ap (λ (x : List ℕ). get_or x 0 0) (j.front 0 (omega arith)).1 in omega (arith, e)

other-order : (N U : Lts) → JoinedByLabel A L (shuts ∷ lifts ∷ opens ∷ []) N (opens ∷ lifts ∷ shuts ∷ []) U → ⊥
other-order N U j =
    let e = j.rising 1 2 1 0 (omega arith) (omega arith) (omega arith) (omega arith) (omega arith) refl refl in
    omega (arith, e)
