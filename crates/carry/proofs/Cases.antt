-- Small cases, computed: the low byte first, an odd last byte ignored, the rest as it was; in a buffer of states no byte may be left over.
use mathlib.Core.Path.{◌≡◌, refl}
use mathlib.Core.List.{[], ◌∷◌}
use Rattle.carry.specs.Carried.{number_of, digits, numbers_of, list_of, bytes_of, loaded, stored}
use Rattle.carry.specs.Bytes.{count_of, carried_by, state_numbers}

loaded-case : loaded 2 (1 ∷ 2 ∷ 3 ∷ 4 ∷ 5 ∷ []) (7 ∷ 8 ∷ 9 ∷ []) ≡ 513 ∷ 1027 ∷ 9 ∷ []
unfolding loaded numbers_of number_of
loaded-case = refl

list-case : list_of (1 ∷ 2 ∷ 3 ∷ 4 ∷ 5 ∷ []) ≡ 513 ∷ 1027 ∷ []
unfolding list_of numbers_of number_of
list-case = refl

stored-case : stored 2 (513 ∷ 1027 ∷ []) (6 ∷ 7 ∷ 8 ∷ 9 ∷ 10 ∷ []) ≡ 1 ∷ 2 ∷ 3 ∷ 4 ∷ 10 ∷ []
unfolding stored bytes_of digits
stored-case = refl

states-case : (state_numbers (1 ∷ 2 ∷ 3 ∷ 4 ∷ []) ≡ 513 ∷ 1027 ∷ []) × (state_numbers (1 ∷ 2 ∷ 3 ∷ []) ≡ [])
unfolding count_of carried_by numbers_of number_of
states-case = (refl, refl)
