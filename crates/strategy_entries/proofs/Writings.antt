-- Entries carry themselves: what is copied into a plan of entries is the outcome of the call on it.
use Prim.Native.Nat.{ℕ}
use native.Mathlib.Nat.{one-mul, div-one}
use native.Mathlib.Omega.{arith}
use mathlib.Core.Path.{◌≡◌, refl, ◌∙◌, ap}
use mathlib.Core.List.{List, ◌++◌}
use lib.ListN.{length, take, drop}
use lib.Seq.{take-append_seam}
use Rattle.lts.specs.declared.Entry.{Entry}
use Rattle.lts.specs.Strategy.{entries_of}
use Rattle.strategy.specs.Write.{write_reply, write_call}
use Rattle.strategy.specs.Within.{entry_count, WrittenWithin}
use Rattle.strategy.proofs.Promise.{Carrier}
use Rattle.strategy.proofs.Within.{carried-within}
use Rattle.strategy_entries.specs.Entries.{itself}
use Rattle.lts.specs.Rule.{Answer}

pub entries-carry : Carrier itself itself 1
entries-carry = record { long = λ es. omega arith; back = λ es _ rest. take-append_seam es rest }

pub entries-within : (s start : List ℕ) (p q : ℕ) (plan : List Entry) {answer : Answer ℕ} {numbers : List ℕ} → WrittenWithin s start p q (length plan) answer numbers
    → write_call itself 1 s start p q plan ≡ record { reply = write_reply answer; plan = take (entry_count answer) (entries_of numbers) ++ drop (entry_count answer) plan }
entries-within s start p q plan {answer} {numbers} w =
    carried-within itself 1 refl s start p q plan (rw (div-one (length plan)) w)
    ∙ ap (λ (x : ℕ). record { reply = write_reply answer; plan = take (entry_count answer) (entries_of numbers) ++ drop x plan }) (one-mul (entry_count answer))
