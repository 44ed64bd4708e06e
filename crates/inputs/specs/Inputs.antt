-- The inputs that every call with a start begins with: a sheet, a start on its states, and for some calls a pair of its states.
use Rattle.std.specs.Prelude.{ℕ, ◌≡◌, ◌&&◌, List, [], ◌∷◌, ◌++◌, ltb, Ok, Err}
use Rattle.lts.specs.declared.Refusal.TheVariants.{NoState}
use Rattle.lts.specs.Rule.{Rule, ◌otherwise◌, Nothing, broken, checked, Answer}
use Rattle.encoding.specs.declared.Header.{Header}
use Rattle.encoding.specs.Records.{header_of}
use Rattle.encoding.specs.Encoding.{sheet_rules}
use Rattle.encoding.specs.Checked.{ReadableAs}
use Rattle.relation.specs.Check.{start_rules}

-- the sheet's rules (1 to 6, 16, 17), then the start's (8 to 10)
unfoldable pub input_rules : List ℕ → List ℕ → List Rule
input_rules s start = sheet_rules s ++ start_rules (header_of s).states start

unfoldable pub read_inputs : List ℕ → List ℕ → Answer Header
read_inputs s start = checked (input_rules s start) Err (Ok (header_of s))

-- then those of a pair's arguments (11)
unfoldable pub pair_rules : List ℕ → List ℕ → ℕ → ℕ → List Rule
pair_rules s start p q = let n = (header_of s).states in input_rules s start ++ (ltb p n && ltb q n) otherwise NoState ∷ []

unfoldable pub read_pair : List ℕ → List ℕ → ℕ → ℕ → Answer Header
read_pair s start p q = checked (pair_rules s start p q) Err (Ok (header_of s))

-- what a caller has of inputs that keep the rules
pub record Ready (s : List ℕ) (h : Header) (start : List ℕ) : Type 0 where
  pub readable : ReadableAs s h
  pub checked : broken (start_rules h.states start) ≡ Nothing
