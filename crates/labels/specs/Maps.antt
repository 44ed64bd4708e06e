-- The map of the second sheet's actions to those of the joined flow: a list of 65 numbers, in which action b goes to number b.
use Rattle.std.specs.Prelude.{ℕ, ◌≤◌, ◌<◌, ◌≡◌, List, [], length, get_or, take}
use Rattle.lts.specs.Labels.{joined_labels, joined_action}
use Rattle.encoding.specs.Labels.{labels_bytes}

-- the first m of the second's actions, with the labels B, go to their joined numbers after the first's labels A
pub record Matches (A B : List (List ℕ)) (m : ℕ) (to : List ℕ) : Type 0 where
  pub long : length to ≡ 65
  pub action : (b : ℕ) → 1 ≤ b → b ≤ m → get_or to b 0 ≡ joined_action A B b

-- the buffer begins with the bytes
pub record Begins (out bytes : List ℕ) : Type 0 where
  pub room : length bytes ≤ length out
  pub front : take (length bytes) out ≡ bytes

-- the buffer has room for 64 labels and begins with the m labels A, of 16 bytes each, of the first sheet; the second's, B, are to follow
pub record Joining (A B : List (List ℕ)) (m : ℕ) (to out : List ℕ) : Type 0 where
  pub matches : Matches A B (length B) to
  pub few : length (joined_labels A B) ≤ 64
  pub count : m ≡ length A
  pub each : (i : ℕ) → i < length A → length (get_or A i []) ≡ 16
  pub long : length out ≡ 1024
  pub front : Begins out (labels_bytes A)
