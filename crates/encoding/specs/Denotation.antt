-- The Lts (flow) that a readable encoding denotes.
use Rattle.std.specs.Prelude.{ℕ, Bool, false, ◌&&◌, ◌||◌, List, [], ◌∷◌, ltb, eqb}
use Rattle.lts.specs.System.{Lts}
use Rattle.encoding.specs.Records.{header_of, state_record, transition_record}
use Rattle.encoding.specs.Encoding.{chain}

-- whether a number of the list passes f
unfoldable pub any : (ℕ → Bool) → List ℕ → Bool
any f [] = false
any f (x ∷ l) = f x || any f l

-- State p is terminating if its end mark is 1; p, a, t is a transition if a record of p's chain has action a and target t.
unfoldable pub lts_of : List ℕ → Lts
lts_of s =
    let h = header_of s in
    record {
      states = h.states;
      actions = h.actions;
      terminating = λ p. ltb p h.states && eqb (state_record s h p).mark 1;
      transition = λ p a t. ltb p h.states && any (λ j. eqb (transition_record s h j).action a && eqb (transition_record s h j).target t) (chain s h p);
    }
