-- The call hand play: its reply (document 01, "Hand play and comparison" and the table of refusals), and what is promised of it.
use Rattle.std.specs.Prelude.{ℕ, ◌≡◌, Bool, cond, not, List, [], ◌∷◌, ◌++◌, T, leb, Ok, Err}
use Rattle.lts.specs.declared.Refusal.{Refusal}
use Rattle.lts.specs.declared.Refusal.TheVariants.{TooManyRounds}
use Rattle.lts.specs.Rule.{Rule, ◌otherwise◌, Nothing, First, broken, checked, Reply, refused, given, Decides, Answer}
use Rattle.lts.specs.Rounds.{round}
use Rattle.lts.specs.Game.{challenger_wins}
use Rattle.encoding.specs.Records.{header_of}
use Rattle.encoding.specs.Denotation.{lts_of}
use Rattle.relation.specs.Matrix.{relation_of}
use Rattle.inputs.specs.Inputs.{pair_rules}

-- the reply of each answer: whether the challenger wins
unfoldable pub play_reply : Answer Bool → Reply
play_reply (Ok b) = given (cond b 1 0 ∷ [])
play_reply (Err r) = refused r

-- the sheet, the start and the pair (1 to 11), then the rounds (12)
unfoldable pub play_rules : List ℕ → List ℕ → ℕ → ℕ → ℕ → List Rule
play_rules s start p q rounds = pair_rules s start p q ++ leb rounds 6 otherwise TooManyRounds ∷ []

-- hand play on a sheet and a start, from the pair (p, q)
unfoldable pub play_call : List ℕ → List ℕ → ℕ → ℕ → ℕ → Reply
play_call s start p q rounds =
    checked (play_rules s start p q rounds) refused
    (given (cond (challenger_wins (lts_of s) (relation_of (header_of s).states start) rounds p q) 1 0 ∷ []))

-- What is promised of the reply.
pub record PlayPromise (s start : List ℕ) (p q rounds : ℕ) (reply : Reply) : Type 0 where
  -- the refusal of the first broken rule
  pub refuses : (r : Refusal) → broken (play_rules s start p q rounds) ≡ First r → reply ≡ refused r
  -- otherwise won exactly if the pair is not in W(rounds)
  pub answers : broken (play_rules s start p q rounds) ≡ Nothing
      → Decides reply (T (not (round (lts_of s) (relation_of (header_of s).states start) rounds p q))) []
