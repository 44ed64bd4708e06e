-- End start and ready start on bytes: the reply and the buffer, and what is promised of them.
use Rattle.std.specs.Prelude.{ℕ, ◌≡◌, List, []}
use Rattle.lts.specs.declared.Refusal.{Refusal}
use Rattle.lts.specs.System.{Rel, Lts}
use Rattle.lts.specs.Rule.{checked, Reply, refused, given}
use Rattle.encoding.specs.Records.{header_of}
use Rattle.encoding.specs.Denotation.{lts_of}
use Rattle.relation.specs.Matrix.{matrix_of}
use Rattle.carry.specs.Carried.{bytes_of}
use Rattle.carry.specs.Bytes.{words_of}
use Rattle.simulation.specs.Calls.{WriteStartOutcome, write_start_rules, WriteStartPromise}

-- a refusal leaves the buffer as it is
unfoldable pub start_on_bytes : (Lts → Rel) → List ℕ → List ℕ → WriteStartOutcome
start_on_bytes start s grid =
    checked (write_start_rules s (words_of grid))
    (λ r. record { reply = refused r; grid = grid })
    (record { reply = given []; grid = bytes_of 8 (matrix_of (header_of s).states (start (lts_of s))) })

-- What is promised of the reply and of the buffer that was grid₀ and is grid, where `Meant` is what the start is to be.
pub record StartBytesPromise (Meant : List ℕ → List ℕ → Type 0) (s grid₀ : List ℕ) (reply : Reply) (grid : List ℕ) : Type 0 where
  -- what the call on words promises, of the words that the bytes carry
  pub carried : WriteStartPromise Meant s (words_of grid₀) reply (words_of grid)
  -- a refusal leaves the bytes
  pub stays : (r : Refusal) → reply ≡ refused r → grid ≡ grid₀
