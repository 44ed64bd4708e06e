-- The index of labels: for each place d of a label, and each low and each high half of a byte, the set of those labels that have it there, as one
-- word.
use Rattle.std.specs.Prelude.{ℕ, ◌+◌, ◌*◌, ◌/◌, ◌%◌, ◌≤◌, ◌<◌, ◌≡◌, ◌&&◌, List, [], eqb, ltb, length, get_or}
use Rattle.rows.specs.Rows.{in_row}

-- which words have the labels with the low and with the high half of v at d
abbrev pub low_word : ℕ → ℕ → ℕ
low_word d v = 32 * d + v % 16

abbrev pub high_word : ℕ → ℕ → ℕ
high_word d v = 32 * d + 16 + v / 16

-- the index holds the labels J, at most 64, of 16 bytes each
pub record Indexed (J : List (List ℕ)) (index : List ℕ) : Type 0 where
  pub long : length index ≡ 512
  pub few : length J ≤ 64
  pub each : (i : ℕ) → i < length J → length (get_or J i []) ≡ 16
  pub low : (d v i : ℕ) → d < 16 → v < 256 → i < 64
      → in_row index (low_word d v * 64 + i) ≡ (ltb i (length J) && eqb (get_or (get_or J i []) d 0 % 16) (v % 16))
  pub high : (d v i : ℕ) → d < 16 → v < 256 → i < 64
      → in_row index (high_word d v * 64 + i) ≡ (ltb i (length J) && eqb (get_or (get_or J i []) d 0 / 16) (v / 16))
