-- The two starts that calls write, and the sets of actions as words.
use Rattle.std.specs.Prelude.{ℕ, suc, ◌/◌, ◌%◌, Bool, true, false, ◌&&◌, List, get_or}
use Rattle.std.specs.Bool.{beq}
use Rattle.lts.specs.Bounded.{◌⇒◌, all_below}
use Rattle.lts.specs.System.{Set, Rel, Lts, into, termination_preorder}
use Rattle.lts.specs.Ready.{ready_preorder}
use Rattle.rows.specs.Rows.{bit, in_row}

-- the ready start where it is asked for, otherwise the end start
unfoldable pub written_start : Bool → Lts → Rel
written_start true = ready_preorder
written_start false = termination_preorder

-- the actions of all states, 64 bits a state: bit a - 1 of state p's is set if p has a transition by action a
unfoldable pub action_bits : Lts → Set
action_bits L x = into L (suc (x % 64)) (λ t. true) (x / 64)

-- two words have the same bits
unfoldable pub same_set : ℕ → ℕ → Bool
same_set x y = all_below 64 (λ i. beq (bit x i) (bit y i))

-- row p of the ready start, by the terminating states as a row and the words of all states
abbrev pub ready_row : List ℕ → List ℕ → ℕ → Set
ready_row ends words p q = (in_row ends p ⇒ in_row ends q) && same_set (get_or words p 0) (get_or words q 0)
