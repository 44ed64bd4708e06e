-- Coarsest on bytes (document 01, "Hand play and comparison": grids and 16-bit lists are carried as bytes, low byte first, lengths are checked
-- in bytes with the same numbers, and a turn list's odd last byte is ignored), and what is promised of it.
use Rattle.std.specs.Prelude.{ℕ, ◌≡◌, List}
use Rattle.lts.specs.declared.Refusal.{Refusal}
use Rattle.lts.specs.Rule.{checked, Reply, refused}
use Rattle.encoding.specs.Records.{header_of}
use Rattle.encoding.specs.Denotation.{lts_of}
use Rattle.relation.specs.Matrix.{relation_of}
use Rattle.carry.specs.Carried.{list_of, bytes_of}
use Rattle.carry.specs.Bytes.{words_of, state_numbers}
use Rattle.coarsest.specs.Call.{CoarsestOutcome, coarsest_rules, refined, CoarsestPromise}

-- the bytes that carry what a run comes to
unfoldable pub carried_back : CoarsestOutcome → CoarsestOutcome
carried_back o = record { reply = o.reply; grid = bytes_of 8 o.grid; representatives = bytes_of 2 o.representatives }

-- a refusal leaves both buffers as they are
unfoldable pub coarsest_on_bytes : List ℕ → List ℕ → List ℕ → List ℕ → List ℕ → CoarsestOutcome
coarsest_on_bytes s start schedule grid representatives =
    checked (coarsest_rules s (words_of start) (words_of grid) (state_numbers representatives))
    (λ r. record { reply = refused r; grid = grid; representatives = representatives })
    (carried_back (refined (lts_of s) (relation_of (header_of s).states (words_of start)) (list_of schedule)))

-- What is promised of the reply and of the buffers, which were grid₀ and representatives₀ and are grid and representatives.
pub record CoarsestBytesPromise (s start schedule grid₀ representatives₀ : List ℕ) (reply : Reply) (grid representatives : List ℕ) : Type 0 where
  -- what coarsest promises, of the numbers that the bytes carry
  pub carried : CoarsestPromise s (words_of start) (list_of schedule) (words_of grid₀) (state_numbers representatives₀) reply (words_of grid) (state_numbers representatives)
  -- a refusal leaves the bytes
  pub stays : (r : Refusal) → reply ≡ refused r → (grid ≡ grid₀) × (representatives ≡ representatives₀)
