-- Laws of the entries that bytes carry: which they are, what writing leaves of the bytes, and that entries come back.
use Prim.Native.Nat.{ℕ, zero, suc, ◌+◌, ◌*◌, ◌/◌, ◌%◌, ◌<◌, ◌≤◌}
use native.Mathlib.Omega.{arith}
use mathlib.Core.Path.{◌≡◌, refl, sym, ◌∙◌, ap, ap₂}
use mathlib.Core.List.{List, [], ◌∷◌, ◌++◌}
use lib.ListN.{length, get_or, take, drop, length-append}
use lib.Seq.{length-take-le}
use Rattle.carry.specs.Carried.{number_of, digits, numbers_of, list_of, bytes_of, stored}
use Rattle.carry.proofs.Laws.{numbers-length, numbers-at, bytes-length}
use Rattle.lts.specs.declared.Entry.{Entry}
use Rattle.lts.specs.Strategy.{entries_of, entry_numbers, blank}
use Rattle.strategy.specs.Write.{write_reply, write_call}
use Rattle.strategy.proofs.Promise.{AllSmall, Carrier, numbers-carry, numbers-back}
use Rattle.strategy.specs.Within.{entry_count, WrittenWithin}
use Rattle.strategy.proofs.Entries.{length-entries, entry_read}
use Rattle.strategy.proofs.Within.{carried-within}
use Rattle.strategy_bytes.specs.Bytes.{entry_bytes, entries_of_bytes}
use Rattle.lts.specs.Rule.{Answer}

length-list : (bytes : List ℕ) → length (list_of bytes) ≡ length bytes / 2
unfolding list_of
length-list bytes = numbers-length 2 (length bytes / 2) bytes

-- eight bytes carry an entry
pub length-carried : (bytes : List ℕ) → length (entries_of_bytes bytes) ≡ length bytes / 8
length-carried bytes = omega (arith, length-entries (list_of bytes), length-list bytes)

-- the number that the two bytes from k on carry
abbrev pub number_at : List ℕ → ℕ → ℕ
number_at bytes k = number_of (take 2 (drop k bytes))

list_at : (bytes : List ℕ) (k j : ℕ) → k ≡ 2 * j → j < length bytes / 2 → number_at bytes k ≡ get_or (list_of bytes) j 0
unfolding list_of
list_at bytes k j e l = rw e (sym (numbers-at 2 (length bytes / 2) j bytes l))

-- the eight bytes from 8i on carry entry i
pub entry-carried : (bytes : List ℕ) (i : ℕ) → 8 * i + 8 ≤ length bytes
    → record { p = number_at bytes (8 * i); q = number_at bytes (8 * i + 2); a = number_at bytes (8 * i + 4); t = number_at bytes (8 * i + 6) } ≡ get_or (entries_of_bytes bytes) i blank
entry-carried bytes i h =
    let l = length-list bytes in
    rw (
      list_at bytes (8 * i) (4 * i) (omega arith) (omega arith),
      list_at bytes (8 * i + 2) (4 * i + 1) (omega arith) (omega arith),
      list_at bytes (8 * i + 4) (4 * i + 2) (omega arith) (omega arith),
      list_at bytes (8 * i + 6) (4 * i + 3) (omega arith) (omega arith),
    )
    (entry_read (list_of bytes) i (omega arith))

-- ## Writing
-- the first numbers, as those of the entries that they carry
numbers-front : (c : ℕ) (xs : List ℕ) → 4 * c ≤ length xs → take (4 * c) xs ≡ entry_numbers (take c (entries_of xs))
unfolding entries_of entry_numbers
numbers-front zero xs h = refl
numbers-front (suc c) [] h = absurd (omega arith)
numbers-front (suc c) (p ∷ []) h = absurd (omega arith)
numbers-front (suc c) (p ∷ q ∷ []) h = absurd (omega arith)
numbers-front (suc c) (p ∷ q ∷ a ∷ []) h = absurd (omega arith)
numbers-front (suc c) (p ∷ q ∷ a ∷ t ∷ xs) h =
    let e : 4 * suc c ≡ suc (suc (suc (suc (4 * c)))) = omega arith in
    ap (λ (k : ℕ). take k (p ∷ q ∷ a ∷ t ∷ xs)) e ∙ ap (λ (l : List ℕ). p ∷ q ∷ a ∷ t ∷ l) (numbers-front c xs (omega arith))

-- `numbers` are what a strategy was written into, with room for as many entries as the bytes have: storing the strategy's numbers is the
-- call on the bytes
pub stored-within : (s start : List ℕ) (p q : ℕ) (plan : List ℕ) {answer : Answer ℕ} {numbers : List ℕ} → WrittenWithin s start p q (length plan / 8) answer numbers
    → (size : ℕ) → size ≡ 4 * entry_count answer → write_call entry_bytes 8 s start p q plan ≡ record { reply = write_reply answer; plan = stored 2 (take size numbers) plan }
unfolding stored bytes_of entry_numbers
stored-within s start p q plan {answer} {numbers} w size e =
    let c = entry_count answer in
    let front : take size numbers ≡ entry_numbers (take c (entries_of numbers)) = ap (λ (k : ℕ). take k numbers) e ∙ numbers-front c numbers w.whole in
    let long : 2 * length (take size numbers) ≡ 8 * c = omega (arith, length-take-le size numbers (omega (arith, w.whole, e)), e) in
    carried-within entry_bytes 8 refl s start p q plan w
    ∙ sym (ap (λ (l : List ℕ). record { reply = write_reply answer; plan = l })
    (ap₂ (λ (l : List ℕ) (k : ℕ). bytes_of 2 l ++ drop k plan) front long))

-- ## The bytes of entries carry them
digits-back : (x : ℕ) → x < 65536 → x % 256 + 256 * (x / 256 % 256 + 256 * 0) ≡ x
digits-back x h = omega arith

numbers-carried : (es : List Entry) → AllSmall es → (m : ℕ) (rest : List ℕ)
    → numbers_of 2 (4 * length es + m) (entry_bytes es ++ rest) ≡ entry_numbers es ++ numbers_of 2 m rest
unfolding numbers_of number_of bytes_of digits entry_numbers
numbers-carried [] small m rest = let n : 4 * 0 + m ≡ m = omega arith in ap (λ (k : ℕ). numbers_of 2 k rest) n
numbers-carried (e ∷ es) small m rest =
    let n : 4 * suc (length es) + m ≡ suc (suc (suc (suc (4 * length es + m)))) = omega arith in
    let here = small.0 in
    rw n (cc (digits-back e.p here.p, digits-back e.q here.q, digits-back e.a here.a, digits-back e.t here.t, numbers-carried es small.1 m rest))

long-bytes : (es : List Entry) → length (entry_bytes es) ≡ 8 * length es
long-bytes es = omega (arith, bytes-length 2 (entry_numbers es), numbers-carry.long es)

list-carried : (es : List Entry) → AllSmall es → (rest : List ℕ) → list_of (entry_bytes es ++ rest) ≡ entry_numbers es ++ list_of rest
unfolding list_of
list-carried es small rest =
    let n : length (entry_bytes es ++ rest) / 2 ≡ 4 * length es + length rest / 2 = omega (arith, length-append (entry_bytes es) rest, long-bytes es) in
    ap (λ (k : ℕ). numbers_of 2 k (entry_bytes es ++ rest)) n ∙ numbers-carried es small (length rest / 2) rest

pub bytes-carry : Carrier entries_of_bytes entry_bytes 8
bytes-carry = record {
  long = long-bytes;
  back = λ es small rest. ap (λ (l : List ℕ). take (length es) (entries_of l)) (list-carried es small rest) ∙ numbers-back es (list_of rest);
}
