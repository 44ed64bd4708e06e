-- For the crate's own functions, and for callers that pack the reply.
use Rattle.std.specs.Prelude.{ℕ, ◌≤◌, List}
use Rattle.lts.specs.Rule.{checked, refused}
use Rattle.encoding.specs.Records.{header_of}
use Rattle.encoding.specs.Denotation.{lts_of}
use Rattle.relation.specs.Matrix.{relation_of}
use Rattle.carry.specs.Bytes.{words_of, state_numbers}
use Rattle.coarsest.specs.declared.Counts.{Counts}
use Rattle.coarsest.specs.Call.{CoarsestOutcome, coarsest_rules, refined}
use Rattle.coarsest_bytes.specs.Call.{carried_back}

-- coarsest with the start's words and the schedule's numbers, on the bytes of its two buffers
unfoldable pub coarsest_on_words : List ℕ → List ℕ → List ℕ → List ℕ → List ℕ → CoarsestOutcome
coarsest_on_words s start schedule grid representatives =
    checked (coarsest_rules s start (words_of grid) (state_numbers representatives))
    (λ r. record { reply = refused r; grid = grid; representatives = representatives })
    (carried_back (refined (lts_of s) (relation_of (header_of s).states start) schedule))

-- the counts of a run keep to their fields
pub record Small (c : Counts) : Type 0 where
  pub steps : c.steps ≤ 65280
  pub pairs : c.pairs ≤ 65536
  pub blocks : c.blocks ≤ 256
