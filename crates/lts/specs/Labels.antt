-- Actions by name: document 02, L2. A label is a name, a list of bytes; a system's labels are one for each action, in order.
use Rattle.std.specs.Prelude.{ℕ, suc, ◌+◌, ◌-◌, ◌≤◌, ◌<◌, ◌≡◌, ◌↔◌, Bool, true, false, ◌&&◌, List, [], ◌∷◌, T, eqb, length, get_or}
use Rattle.lts.specs.System.{Lts}
use Rattle.lts.specs.Mapped.{mapped}
use Rattle.lts.specs.Places.{distinct, place_in, continued}

-- the same bytes
unfoldable pub same_label : List ℕ → List ℕ → Bool
same_label [] [] = true
same_label [] (y ∷ ys) = false
same_label (x ∷ xs) [] = false
same_label (x ∷ xs) (y ∷ ys) = eqb x y && same_label xs ys

-- the label of action a, and the action (from 1) of a label
unfoldable pub label_of : List (List ℕ) → ℕ → List ℕ
label_of labels a = get_or labels (a - 1) []

unfoldable pub action_of : List (List ℕ) → List ℕ → ℕ
action_of labels x = suc (place_in same_label labels x)

-- the joined labels: the first's in order, then the second's new ones in their order
unfoldable pub joined_labels : List (List ℕ) → List (List ℕ) → List (List ℕ)
joined_labels A B = continued same_label A B

-- the joined number of the second's action b
unfoldable pub joined_action : List (List ℕ) → List (List ℕ) → ℕ → ℕ
joined_action A B b = action_of (joined_labels A B) (label_of B b)

-- The second system under the joined numbers; the first's stay. The joined flow by name is `disjoint_union L (joined_second A B M)`, compare's
-- run on it `comparison start L (joined_second A B M)`, and compare's yes `simulated start L (joined_second A B M)`.
unfoldable pub joined_second : List (List ℕ) → List (List ℕ) → Lts → Lts
joined_second A B M = mapped M.states (length (joined_labels A B)) (λ p. p) (joined_action A B) M

-- a label for each action, none twice
pub record Labels (A : List (List ℕ)) (L : Lts) : Type 0 where
  pub count : length A ≡ L.actions
  pub once : T (distinct same_label A)

-- U, with the labels J, is the joined flow by name of L, with the labels A, and M, with the labels B
pub record JoinedByLabel (A : List (List ℕ)) (L : Lts) (B : List (List ℕ)) (M : Lts) (J : List (List ℕ)) (U : Lts) : Type 0 where
  -- the states of both, and an action for each label of J
  pub states : U.states ≡ L.states + M.states
  pub actions : U.actions ≡ length J
  -- J begins with the first's labels in order; what follows are labels of the second, in the order of their places there; every label of the
  -- second is in J, and none stands in J twice
  pub front : (i : ℕ) → i < length A → (i < length J) × (get_or J i [] ≡ get_or A i [])
  pub new : (i : ℕ) → length A ≤ i → i < length J → (b : ℕ) × (b < length B) × (get_or J i [] ≡ get_or B b [])
  pub rising : (i j b c : ℕ) → length A ≤ i → i < j → j < length J → b < length B → c < length B
      → get_or J i [] ≡ get_or B b [] → get_or J j [] ≡ get_or B c [] → b < c
  pub whole : (b : ℕ) → b < length B → (i : ℕ) × (i < length J) × (get_or J i [] ≡ get_or B b [])
  pub once : (i j : ℕ) → i < length J → j < length J → get_or J i [] ≡ get_or J j [] → i ≡ j
  -- the terminating states of the first, then those of the second
  pub first_ends : (p : ℕ) → p < L.states → U.terminating p ≡ L.terminating p
  pub second_ends : (p : ℕ) → p < M.states → U.terminating (L.states + p) ≡ M.terminating p
  -- the first's transitions, with their numbers; the second's, each by the action that has its label in J; no others
  pub first_moves : (p a t : ℕ) → p < L.states → T (U.transition p a t) ↔ T (L.transition p a t)
  pub second_moves : (p a t : ℕ) → p < M.states
      → T (U.transition (L.states + p) a t)
      ↔ ((b r : ℕ) × T (M.transition p b r) × (label_of J a ≡ label_of B b) × (1 ≤ a) × (a ≤ length J) × (t ≡ L.states + r))

-- L has a transition from p to t by an action with the label x
abbrev pub Move : List (List ℕ) → Lts → ℕ → List ℕ → ℕ → Type 0
Move A L p x t = (a : ℕ) × T (L.transition p a t) × (label_of A a ≡ x)

-- two systems with the same states, terminating states and transitions by label
pub record SameByLabel (A : List (List ℕ)) (L : Lts) (B : List (List ℕ)) (M : Lts) : Type 0 where
  pub states : L.states ≡ M.states
  pub terminating : (p : ℕ) → p < L.states → L.terminating p ≡ M.terminating p
  pub move : (p : ℕ) (x : List ℕ) (t : ℕ) → Move A L p x t ↔ Move B M p x t
