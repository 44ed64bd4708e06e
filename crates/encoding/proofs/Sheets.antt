-- The sheets of document 01 ("Flows on each side") and some more, as bytes.
use Prim.Native.Nat.{ℕ}
use mathlib.Core.List.{List, [], ◌∷◌, ◌++◌}
use lib.ListN.{replicate}

-- a header, state records and transition records, one after the other
abbrev pub header : ℕ → ℕ → ℕ → List ℕ
header n m k = n ∷ 0 ∷ m ∷ 0 ∷ k ∷ 0 ∷ []

abbrev pub state : ℕ → List ℕ
state first = 0 ∷ 0 ∷ first ∷ 0 ∷ []

abbrev pub by : ℕ → ℕ → ℕ → List ℕ
by action target next = action ∷ 0 ∷ target ∷ 0 ∷ next ∷ 0 ∷ []

abbrev pub transition : ℕ → ℕ → List ℕ
transition target next = by 1 target next

abbrev pub F1 : List ℕ
F1 = header 1 0 0 ++ state 0

abbrev pub F2 : List ℕ
F2 = header 2 1 2 ++ state 1 ++ state 2 ++ transition 1 0 ++ transition 0 0

-- F3 as document 01 has it
abbrev pub F3 : List ℕ
F3 =
    3 ∷ 0 ∷ 1 ∷ 0 ∷ 2 ∷ 0 ∷ 0 ∷ 0 ∷ 1 ∷ 0 ∷ 0 ∷ 0 ∷ 0 ∷ 0 ∷ 0 ∷ 0 ∷ 2 ∷ 0 ∷ 1 ∷ 0 ∷ 1 ∷ 0 ∷ 0 ∷ 0 ∷ 1 ∷ 0 ∷ 2 ∷ 0 ∷ 0 ∷ 0 ∷ []

-- F3 with its two transition records in the other order
abbrev pub F3-turned : List ℕ
F3-turned = header 3 1 2 ++ state 2 ++ state 0 ++ state 1 ++ transition 2 0 ++ transition 1 0

abbrev pub F4 : List ℕ
F4 = header 4 1 3 ++ state 1 ++ state 2 ++ state 3 ++ state 0 ++ transition 1 0 ++ transition 2 0 ++ transition 3 0

-- F7: n = 0. F8: one byte more. F9: the first record names itself as next
abbrev pub F7 : List ℕ
F7 = header 0 1 2 ++ state 1 ++ state 0 ++ state 2 ++ transition 1 0 ++ transition 2 0

abbrev pub F8 : List ℕ
F8 = F3 ++ (0 ∷ [])

abbrev pub F9 : List ℕ
F9 = header 3 1 2 ++ state 1 ++ state 0 ++ state 2 ++ transition 1 1 ++ transition 2 0

-- one state and one record, which names itself: its chain does not end
abbrev pub endless : List ℕ
endless = header 1 1 1 ++ state 1 ++ transition 0 1

-- a record that names itself and that no state names
abbrev pub lone : List ℕ
lone = header 1 1 1 ++ state 0 ++ transition 0 1

-- two records that name each other, and that no state names
abbrev pub cycle : List ℕ
cycle = header 1 1 2 ++ state 0 ++ transition 0 2 ++ transition 0 1

-- records 1 and 3 on no chain
abbrev pub gaps : List ℕ
gaps = header 1 1 3 ++ state 2 ++ transition 0 0 ++ transition 0 0 ++ transition 0 0

-- two states name record 1, and record 2 is on no chain
abbrev pub both : List ℕ
both = header 2 1 2 ++ state 1 ++ state 1 ++ transition 0 0 ++ transition 1 0

-- two states name record 2, which goes on to record 1
abbrev pub shared : List ℕ
shared = header 2 1 2 ++ state 2 ++ state 2 ++ transition 0 0 ++ transition 1 1

-- record 1 goes on to record 2, which a state names
abbrev pub joining : List ℕ
joining = header 2 1 2 ++ state 1 ++ state 2 ++ transition 0 2 ++ transition 1 0

-- two states name record 1, which goes on to record 2, which names itself
abbrev pub doubled : List ℕ
doubled = header 2 1 2 ++ state 1 ++ state 1 ++ transition 0 2 ++ transition 1 2

-- a name and zeros behind it; "open" and "shut"
abbrev pub name : List ℕ → ℕ → List ℕ
name text zeros = text ++ replicate zeros 0

abbrev pub opens : List ℕ
opens = name (111 ∷ 112 ∷ 101 ∷ 110 ∷ []) 12

abbrev pub shuts : List ℕ
shuts = name (115 ∷ 104 ∷ 117 ∷ 116 ∷ []) 12

-- the header of a named sheet, and its names
abbrev pub named : ℕ → ℕ → ℕ → List ℕ → List ℕ
named n m k names = n ∷ 128 ∷ m ∷ 0 ∷ k ∷ 0 ∷ names

-- F3 with names; "open" its one action, and with its two transition records in the other order
abbrev pub F3-named : ℕ → List ℕ → List ℕ
F3-named m names = named 3 m 2 names ++ state 1 ++ state 0 ++ state 2 ++ transition 1 0 ++ transition 2 0

abbrev pub F3-open : List ℕ
F3-open = F3-named 1 opens

abbrev pub F3-open-turned : List ℕ
F3-open-turned = named 3 1 2 opens ++ state 2 ++ state 0 ++ state 1 ++ transition 2 0 ++ transition 1 0

-- a page that opens and stays: "open" is action 1 of the one sheet and 2 of the other; and a plain sheet of the same shape
abbrev pub open-first : List ℕ
open-first = named 1 1 1 opens ++ state 1 ++ by 1 0 0

abbrev pub open-second : List ℕ
open-second = named 1 2 1 (shuts ++ opens) ++ state 1 ++ by 2 0 0

abbrev pub loop : List ℕ
loop = header 1 1 1 ++ state 1 ++ by 1 0 0

-- one Lts, three times: in normal form; with its records ordered by target, then action; with its chain turned
abbrev pub by-action : List ℕ
by-action = header 2 2 2 ++ state 1 ++ state 0 ++ by 1 1 2 ++ by 2 0 0

abbrev pub by-target : List ℕ
by-target = header 2 2 2 ++ state 1 ++ state 0 ++ by 2 0 2 ++ by 1 1 0

abbrev pub chain-turned : List ℕ
chain-turned = header 2 2 2 ++ state 2 ++ state 0 ++ by 1 1 0 ++ by 2 0 1
