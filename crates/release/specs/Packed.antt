-- How the one number that an exported call returns carries its reply: bits 0 to 7 hold the refusal's number, or 0. A refused result has the
-- record's number from bit 8 on (at most 1,024: bits 8 to 23); with no refusal each value stands from its place on, below the next value's place.
use Rattle.std.specs.Prelude.{ℕ, ◌+◌, ◌*◌, ◌-◌, ◌/◌, ◌%◌, ◌^◌, cond, List, [], ◌∷◌, eqb}
use Rattle.lts.specs.Rule.{Reply, given}

unfoldable pub placed : List ℕ → List ℕ → ℕ
placed [] values = 0
placed (p ∷ places) [] = 0
placed (p ∷ places) (v ∷ values) = 2 ^ p * v + placed places values

unfoldable pub packed : List ℕ → Reply → ℕ
packed places r = r.refusal + 256 * r.record_number + placed places r.values

-- the values that a number carries at the places
unfoldable pub fields : List ℕ → ℕ → List ℕ
fields [] x = []
fields (p ∷ []) x = x / 2 ^ p ∷ []
fields (p ∷ q ∷ places) x = x / 2 ^ p % 2 ^ (q - p) ∷ fields (q ∷ places) x

-- the reply that a number carries
unfoldable pub unpacked : List ℕ → ℕ → Reply
unpacked places x = cond (eqb (x % 256) 0) (given (fields places x)) (record { refusal = x % 256; record_number = x / 256; values = [] })

-- where the values of each call stand. Coarsest: turns, kept pairs, blocks; compare, in either form: yes, turns; test simulation and hand
-- play: yes, or won; check plan: the pair and its depth; write plan: the entries; join: the length; normalise, to named, to plain, end start
-- and ready start have none.
abbrev pub coarsest_places : List ℕ
coarsest_places = 8 ∷ 24 ∷ 48 ∷ []

abbrev pub compare_places : List ℕ
compare_places = 8 ∷ 16 ∷ []

abbrev pub check_places : List ℕ
check_places = 8 ∷ 24 ∷ 40 ∷ []

abbrev pub one_place : List ℕ
one_place = 8 ∷ []

abbrev pub no_place : List ℕ
no_place = []
