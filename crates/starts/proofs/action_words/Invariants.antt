use mathlib.Core.Path.{◌≡◌}
use lib.ListN.{replicate}
use Rattle.rows.proofs.Rows.{gathered}
use Rattle.starts.proofs.Words.{sets-bit}
use Rattle.starts.proofs.action_words.Given as goal

abbrev pub invariant-loop-i : goal.invariant-loop-i
invariant-loop-i l = l.words ≡ gathered (replicate 256 0) (sets-bit l.table) l.i
