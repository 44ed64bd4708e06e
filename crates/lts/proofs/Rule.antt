-- The laws of rules: a sequence of checks, of which each refuses or goes on; rules of several parts; and what an answer says of the rules.
use Prim.Native.Nat.{ℕ, ◌≤◌, ◌<◌}
use native.Mathlib.Omega.{arith}
use mathlib.Core.Path.{◌≡◌, refl, sym, ◌∙◌, ap, ap₂}
use mathlib.Core.Logic.{◌⊎◌, inl, inr, ⊎_elim, ◌↔◌}
use mathlib.Core.Bool.{Bool, true, false, cond, not}
use mathlib.Core.List.{List, [], ◌∷◌, ◌++◌}
use lib.Dec.{T}
use lib.ListN.{get_or, drop}
use borrow.Author.Tests.{not-true, not-false}
use Rattle.lts.specs.declared.Refusal.{Refusal}
use Rattle.lts.specs.declared.Refusal.TheVariants.{Length, Range, Label, StateRecord, TransitionRecord, Unreached, ReachedTwice, Repeated, TooLarge, Grid, TooManyLabels, NotDecimal, NotReflexive, NotTransitive, NoState, TooManyRounds, StillRelated, Unsound, Buffer}
use Rattle.lts.specs.Refusal.{refusal_number, refusal_record}
use Rattle.lts.specs.Rule.{Rule, ◌otherwise◌, Finding, Nothing, First, broken, checked, Reply, given, check, Decides, Answer}
use Rattle.std.specs.Prelude.{Ok, Err, IsErrAnd}

-- ## A sequence of checks: what all the rules come to is what is left of them after the first k, which are kept
abbrev pub After : ℕ → List Rule → Type 0
After k rules = broken rules ≡ broken (drop k rules)

-- one check, made by the code as b: the rule is broken, or kept
module _ {x : Finding} (t : Bool) (r : Refusal) (rest : List Rule) {b : Bool} where
  pub stop : x ≡ broken (t otherwise r ∷ rest) → b ≡ t → not b ≡ true → x ≡ First r
  unfolding broken
  stop e q n = e ∙ rw (← q, not-true b n)

  pub pass : x ≡ broken (t otherwise r ∷ rest) → b ≡ t → not b ≡ false → x ≡ broken rest
  unfolding broken
  pass e q n = e ∙ rw (← q, not-false b n)

-- every rule is kept
pub done : {x : Finding} → x ≡ broken [] → x ≡ Nothing
unfolding broken
done e = e

-- ## Rules of two parts, one after the other
pub first_part : (xs ys : List Rule) {r : Refusal} → broken xs ≡ First r → broken (xs ++ ys) ≡ First r
unfolding broken
first_part [] ys e = cc
first_part (true otherwise r ∷ xs) ys e = first_part xs ys e
first_part (false otherwise r ∷ xs) ys e = e

pub second-part : (xs ys : List Rule) → broken xs ≡ Nothing → broken (xs ++ ys) ≡ broken ys
unfolding broken
second-part [] ys e = refl
second-part (true otherwise r ∷ xs) ys e = second-part xs ys e
second-part (false otherwise r ∷ xs) ys e = cc

-- ## What is known where every rule is kept: its test passes, and the others are kept
pub kept : (t : Bool) (r : Refusal) (rest : List Rule) → broken (t otherwise r ∷ rest) ≡ Nothing → (t ≡ true) × (broken rest ≡ Nothing)
unfolding broken
kept true r rest e = (refl, e)
kept false r rest e = (cc, cc)

pub both-kept : (xs ys : List Rule) → broken (xs ++ ys) ≡ Nothing → (broken xs ≡ Nothing) × (broken ys ≡ Nothing)
unfolding broken
both-kept [] ys e = (refl, e)
both-kept (true otherwise r ∷ xs) ys e = both-kept xs ys e
both-kept (false otherwise r ∷ xs) ys e = (e, cc)

-- ## What is known where a rule is the first to be broken: it is this one, or this one is kept
pub at_or_after : (t : Bool) (r : Refusal) (rest : List Rule) {q : Refusal} → broken (t otherwise r ∷ rest) ≡ First q
    → ((t ≡ false) × (r ≡ q)) ⊎ ((t ≡ true) × (broken rest ≡ First q))
unfolding broken
at_or_after true r rest e = inr (refl, e)
at_or_after false r rest e = inl (refl, cc)

-- after one that gives another number
pub past : (t : Bool) (r : Refusal) (rest : List Rule) {q : Refusal} → broken (t otherwise r ∷ rest) ≡ First q
    → (refusal_number r ≡ refusal_number q → ⊥) → (t ≡ true) × (broken rest ≡ First q)
past t r rest e n = ⊎_elim (λ a. absurd (n (ap refusal_number a.1))) (λ b. b) (at_or_after t r rest e)

pub never : {q : Refusal} → broken [] ≡ First q → ⊥
unfolding broken
never e = let z : ◌≡◌ {A = ℕ} 0 1 = cc in omega (arith, z)

-- ## What a call comes to, by its rules
module _ {A : Type 0} (rules : List Rule) (refuse : Refusal → A) (result : A) where
  pub refuses : {r : Refusal} → broken rules ≡ First r → checked rules refuse result ≡ refuse r
  unfolding checked
  refuses e = rw (e, checked)

  pub passes : broken rules ≡ Nothing → checked rules refuse result ≡ result
  unfolding checked
  passes e = rw (e, checked)

-- where the first rules are kept, the others are checked
pub second-checked : {A : Type 0} (xs ys : List Rule) (refuse : Refusal → A) (result : A) → broken xs ≡ Nothing
    → checked (xs ++ ys) refuse result ≡ checked ys refuse result
unfolding checked
second-checked xs ys refuse result e = rw (second-part xs ys e, checked)

-- nothing is broken, or a rule is
pub finding : (rules : List Rule) → (broken rules ≡ Nothing) ⊎ ((r : Refusal) × (broken rules ≡ First r))
finding rules = go (broken rules) refl
  where
    go : (o : Finding) → broken rules ≡ o → (broken rules ≡ Nothing) ⊎ ((r : Refusal) × (broken rules ≡ First r))
    go Nothing e = inl e
    go (First r) e = inr (r, e)

-- ## Numbers: no refusal has the number 0 or one of more than 8 bits, and no two have the same number and record
listed : ℕ → ℕ → Refusal
listed k j =
    get_or (Length ∷ Length ∷ Range ∷ StateRecord ∷ TransitionRecord ∷ Unreached j ∷ Repeated ∷ TooLarge ∷ Grid ∷ NotReflexive ∷ NotTransitive ∷ NoState
    ∷ TooManyRounds ∷ StillRelated ∷ Unsound ∷ Buffer ∷ ReachedTwice j ∷ Label ∷ TooManyLabels ∷ NotDecimal ∷ []) k Length

number-law : (r : Refusal) → (1 ≤ refusal_number r) × (refusal_number r < 256) × (listed (refusal_number r) (refusal_record r) ≡ r)
unfolding listed
number-law Length = (omega arith, omega arith, refl)
number-law Range = (omega arith, omega arith, refl)
number-law Label = (omega arith, omega arith, refl)
number-law StateRecord = (omega arith, omega arith, refl)
number-law TransitionRecord = (omega arith, omega arith, refl)
number-law (Unreached j) = (omega arith, omega arith, refl)
number-law (ReachedTwice j) = (omega arith, omega arith, refl)
number-law Repeated = (omega arith, omega arith, refl)
number-law TooLarge = (omega arith, omega arith, refl)
number-law TooManyLabels = (omega arith, omega arith, refl)
number-law NotDecimal = (omega arith, omega arith, refl)
number-law Grid = (omega arith, omega arith, refl)
number-law NotReflexive = (omega arith, omega arith, refl)
number-law NotTransitive = (omega arith, omega arith, refl)
number-law NoState = (omega arith, omega arith, refl)
number-law TooManyRounds = (omega arith, omega arith, refl)
number-law StillRelated = (omega arith, omega arith, refl)
number-law Unsound = (omega arith, omega arith, refl)
number-law Buffer = (omega arith, omega arith, refl)

pub numbered : (r : Refusal) → 0 ≡ refusal_number r → ⊥
numbered r e = omega (arith, (number-law r).0)

pub number-some : (r : Refusal) → (1 ≤ refusal_number r) × (refusal_number r < 256)
number-some r = let n = number-law r in (n.0, n.1)

pub number_same : (q r : Refusal) → refusal_number q ≡ refusal_number r → refusal_record q ≡ refusal_record r → q ≡ r
number_same q r e f = sym (number-law q).2 ∙ ap₂ listed e f ∙ (number-law r).2

-- a refusal with another number than 5 and 16 is about no record, so its number says which it is
abbrev pub AboutNone : ℕ → Type 0
AboutNone x = (x ≡ 5 → ⊥) × (x ≡ 16 → ⊥)

pub no_record : (r : Refusal) → AboutNone (refusal_number r) → refusal_record r ≡ 0
no_record Length n = refl
no_record Range n = refl
no_record Label n = refl
no_record StateRecord n = refl
no_record TransitionRecord n = refl
no_record (Unreached j) n = absurd (n.0 refl)
no_record (ReachedTwice j) n = absurd (n.1 refl)
no_record Repeated n = refl
no_record TooLarge n = refl
no_record TooManyLabels n = refl
no_record NotDecimal n = refl
no_record Grid n = refl
no_record NotReflexive n = refl
no_record NotTransitive n = refl
no_record NoState n = refl
no_record TooManyRounds n = refl
no_record StillRelated n = refl
no_record Unsound n = refl
no_record Buffer n = refl

pub number-alone : (q r : Refusal) → AboutNone (refusal_number r) → refusal_number q ≡ refusal_number r → q ≡ r
number-alone q r n e = number_same q r e (no_record q (λ f. n.0 (sym e ∙ f), λ f. n.1 (sym e ∙ f)) ∙ sym (no_record r n))

-- ## What an answer without a value says of the rules
module _ (rules : List Rule) where
  pub check-refused : {r : Refusal} → broken rules ≡ First r → Err r ≡ check rules
  unfolding check
  check-refused e = sym (refuses rules Err (Ok tt) e)

  pub check-passed : broken rules ≡ Nothing → Ok tt ≡ check rules
  unfolding check
  check-passed e = sym (passes rules Err (Ok tt) e)

  pub check-broken : {r : Refusal} → check rules ≡ Err r → broken rules ≡ First r
  check-broken {r} e = ⊎_elim (λ p. let f = check-passed p in cc)
      (λ q. let f = check-refused q.1 in let z : q.0 ≡ r = cc in q.1 ∙ ap First z) (finding rules)

  pub check-kept : check rules ≡ Ok tt → broken rules ≡ Nothing
  check-kept e = ⊎_elim (λ p. p) (λ q. let f = check-refused q.1 in cc) (finding rules)

-- ## What came back from a call that comes to x
module _ {A : Type 0} (rules : List Rule) (refuse : Refusal → A) (result : A) {x : A} (is : checked rules refuse result ≡ x) where
  pub when-broken : {r : Refusal} → broken rules ≡ First r → x ≡ refuse r
  when-broken e = sym is ∙ refuses rules refuse result e

  pub when-kept : broken rules ≡ Nothing → x ≡ result
  when-kept e = sym is ∙ passes rules refuse result e

-- a reply has the number of a refusal that is about no record exactly where that rule is the first to be broken
module _ (rules : List Rule) (reply : Reply) (stops : (r : Refusal) → broken rules ≡ First r → reply.refusal ≡ refusal_number r)
    (goes : broken rules ≡ Nothing → reply.refusal ≡ 0) where
  pub refusal-iff : (r : Refusal) → AboutNone (refusal_number r) → (reply.refusal ≡ refusal_number r) ↔ (broken rules ≡ First r)
  refusal-iff r n = (
    λ e. ⊎_elim (λ p. absurd (numbered r (sym (goes p) ∙ e)))
        (λ q. q.1 ∙ ap First (number-alone q.0 r n (sym (stops q.0 q.1) ∙ e))) (finding rules),
    stops r,
  )

-- a rule is the first to be broken exactly where its test fails, if those before it are kept and those after it give another refusal
pub exactly : (xs : List Rule) (t : Bool) (r : Refusal) (ys : List Rule) → broken xs ≡ Nothing → (broken ys ≡ First r → ⊥)
    → (broken (xs ++ t otherwise r ∷ ys) ≡ First r) ↔ T (not t)
unfolding broken
exactly xs true r ys before after = (λ e. absurd (after (sym (second-part xs (true otherwise r ∷ ys) before) ∙ e)), λ z. absurd z)
exactly xs false r ys before after = (λ e. tt, λ z. second-part xs (false otherwise r ∷ ys) before)

-- a reply of 1 or 0 by a test that decides P
pub decided : (b : Bool) {P : Type 0} {reply : Reply} (others : List ℕ) → T b ↔ P → reply ≡ given (cond b 1 0 ∷ others) → Decides reply P others
decided true others i e = inl (e, i.0 tt)
decided false others i e = inr (e, λ p. i.1 p)

-- what the exit of a `?` returns: the refusal, as it is
pub passed_on : {A : Type 0} (x : Answer A) {r : Refusal} → IsErrAnd x (λ e. e ≡ r) → x ≡ Err r
passed_on (Ok a) h = absurd h
passed_on (Err e) h = ap Err h
