-- What a call checks and what it gives back: rules in the order of document 01's table, and replies as document 01's numbers.
use Rattle.std.specs.Prelude.{ℕ, ◌≡◌, ◌⊎◌, Bool, true, false, List, [], ◌∷◌, Result, Ok, Err}
use Rattle.lts.specs.declared.Refusal.{Refusal}
use Rattle.lts.specs.Refusal.{refusal_number, refusal_record}

-- a rule: a test that is to pass, and the refusal that its breach gives
infix 70 ◌otherwise◌
pub data Rule : Type 0 where
  ◌otherwise◌ : Bool → Refusal → Rule

-- what is broken of a list of rules: nothing, or first the rule with this refusal
pub data Finding : Type 0 where
  Nothing : Finding
  First : Refusal → Finding

unfoldable pub broken : List Rule → Finding
broken [] = Nothing
broken (true otherwise r ∷ rules) = broken rules
broken (false otherwise r ∷ rules) = First r

-- what a call comes to that checks the rules: `refuse` of the first refusal, or the result where every rule is kept
unfoldable pub checked : {A : Type 0} → List Rule → (Refusal → A) → A → A
checked rules refuse result = elim (broken rules) [ Nothing ↦ result | First r ↦ refuse r ]

-- A reply: the refusal's number in the table, 0 for none; the number of the record that a refusal 5 or 16 is about, 0 with every other answer;
-- and with no refusal the values in the order that document 01 names them in.
pub record Reply : Type 0 where
  pub refusal : ℕ
  pub record_number : ℕ
  pub values : List ℕ

abbrev pub refused : Refusal → Reply
refused r = record { refusal = refusal_number r; record_number = refusal_record r; values = [] }

abbrev pub given : List ℕ → Reply
given values = record { refusal = 0; record_number = 0; values = values }

-- what a call answers: a value, or a refusal
abbrev pub Answer : Type 0 → Type 0
Answer A = Result A Refusal

-- what a check of rules answers that has no value to give; and the reply of such an answer
unfoldable pub check : List Rule → Answer (Unit {0})
check rules = checked rules Err (Ok tt)

unfoldable pub checked_reply : Answer (Unit {0}) → Reply
checked_reply (Ok tt) = given []
checked_reply (Err r) = refused r

-- the reply says whether P holds: 1 for yes, 0 for no, and then the other values
abbrev pub Decides : Reply → Type 0 → List ℕ → Type 0
Decides reply P others = ((reply ≡ given (1 ∷ others)) × P) ⊎ ((reply ≡ given (0 ∷ others)) × (P → ⊥))
