-- What packing compare's reply asks of it.
use Rattle.std.specs.Prelude.{ℕ, ◌≤◌, ◌≡◌, [], ◌∷◌}
use Rattle.lts.specs.Rule.{Reply, given}

-- the turns fit their place: at most 256 * 255
abbrev pub FewTurns : Reply → Type 0
FewTurns reply = (value turns : ℕ) → reply ≡ given (value ∷ turns ∷ []) → turns ≤ 65280
