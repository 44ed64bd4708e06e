-- The check of a strategy whose entries come one by one. What was judged is a list of 65,540 numbers. The first 65,536 are the marks of the
-- pairs of the sound entries; then comes 1 where an entry was unsound; then the last sound entry's pair and its depth.
use Rattle.std.specs.Prelude.{ℕ, ◌+◌, ◌*◌, ◌-◌, ◌%◌, ◌<◌, ◌≡◌, ◌⊎◌, Bool, true, cond, ◌&&◌, ◌||◌, List, [], ◌∷◌, ◌++◌, T, eqb, ltb, length, get_or, set, Ok, Err}
use Rattle.lts.specs.declared.Entry.{Entry}
use Rattle.lts.specs.declared.Refusal.{Refusal}
use Rattle.lts.specs.declared.Refusal.TheVariants.{Unsound}
use Rattle.lts.specs.System.{Rel, Lts, reflexive}
use Rattle.lts.specs.Strategy.{all_sound, accepted, last_of, blank}
use Rattle.lts.specs.Depth.{depth_of}
use Rattle.lts.specs.Rule.{Nothing, broken, Answer}
use Rattle.lts.specs.Game.{defender_loses}
use Rattle.encoding.specs.declared.Header.{Header}
use Rattle.encoding.specs.Checked.{ReadableAs}
use Rattle.encoding.specs.Denotation.{lts_of}
use Rattle.transitions.specs.Table.{states_of, table_lts, Formed, Holds}
use Rattle.relation.specs.Matrix.{relation_of, Matrix}
use Rattle.inputs.specs.Inputs.{input_rules, read_inputs}
use Rattle.strategy_depth.specs.Marks.{mark_of, lowered, marked, Marked, entry_mark}
use Rattle.strategy_check.specs.Entries.{outside}
use Rattle.strategy.specs.declared.Accepted.{Accepted}
use Rattle.strategy.specs.Check.{accepted_with, check_reply, start_of, check_call}

-- the entry is sound over earlier entries that hold the pairs of M
unfoldable pub sound_on : Lts → Rel → Rel → Entry → Bool
sound_on L start M e =
    ltb e.p L.states && ltb e.q L.states
    && (outside start e.p e.q e.a e.t || L.transition e.p e.a e.t && defender_loses L M e.q e.a e.t)

-- the mark of an entry over them: one more than its depth, and 0 where it is unsound
unfoldable pub mark_over : Lts → Rel → (ℕ → ℕ → ℕ) → Entry → ℕ
mark_over L start marks e = cond (sound_on L start (marked marks) e) (entry_mark L marks e.q e.a e.t) 0

-- what was judged, with a sound entry that has this mark
abbrev pub with_entry : List ℕ → Entry → ℕ → List ℕ
with_entry judged e mark =
    let lower = set judged (256 * e.p + e.q) (lowered (mark_of judged e.p e.q) mark % 65536) in
    set (set (set lower 65537 e.p) 65538 e.q) 65539 (mark - 1)

-- the entries es were judged sound: the marks of their pairs, the last pair and its depth
pub record Noted (L : Lts) (es : List Entry) (judged : List ℕ) : Type 0 where
  pub marks : Marked L es judged
  pub first : get_or judged 65537 0 ≡ (last_of es).p
  pub second : get_or judged 65538 0 ≡ (last_of es).q
  pub depth : get_or judged 65539 0 ≡ depth_of L es

-- The entries es were judged: whether each is sound over those before it, and if so what is noted of them.
pub record Judging (L : Lts) (start : Rel) (es : List Entry) (judged : List ℕ) : Type 0 where
  pub verdict : get_or judged 65536 0 ≡ cond (all_sound L start [] es) 0 1
  pub noted : all_sound L start [] es ≡ true → Noted L es judged

-- e is judged after any entries
abbrev pub Judges : Lts → Rel → List ℕ → Entry → List ℕ → Type 0
Judges L start judged e other = (es : List Entry) → Judging L start es judged → Judging L start (es ++ e ∷ []) other

-- entries can be judged on a table with a reflexive start on its states, and on one without states: there each is unsound
abbrev pub Judgeable : List ℕ → List ℕ → Type 0
Judgeable t start = (Formed t × Matrix (states_of t) start × T (reflexive (table_lts t) (relation_of (states_of t) start))) ⊎ (states_of t ≡ 0)

-- the sheet was read as the answer says
abbrev pub ReadBy : List ℕ → Answer Header → Type 0
ReadBy s reading = (h : Header) → reading ≡ Ok h → ReadableAs s h

-- the table holds the system of a sheet that was read, and is one without states where it was refused
pub record Loads (s : List ℕ) (reading : Answer Header) (t : List ℕ) : Type 0 where
  pub full : (h : Header) → reading ≡ Ok h → Holds (lts_of s) t
  pub empty : (r : Refusal) → reading ≡ Err r → states_of t ≡ 0

-- the answer for `count` entries that were judged
unfoldable pub verdict_at : List ℕ → ℕ → Answer Accepted
verdict_at judged count =
    cond (eqb count 0 || eqb (get_or judged 65536 0) 1) (Err Unsound) (accepted_with (get_or judged 65537 0) (get_or judged 65538 0) (get_or judged 65539 0))

-- r is the answer for any entries that were judged on a sheet and a start with this reading
abbrev pub Concludes : Answer Header → List ℕ → ℕ → Answer Accepted → Type 0
Concludes reading judged count r =
    (s start : List ℕ) → reading ≡ read_inputs s start → (es : List Entry) → length es ≡ count
    → (broken (input_rules s start) ≡ Nothing → Judging (lts_of s) (start_of s start) es judged) → check_call s start es ≡ check_reply r

-- the answer for the entries es: the last one's pair and its depth
unfoldable pub answer_for : Lts → Rel → List Entry → Answer Accepted
answer_for L start es = cond (accepted L start es) (accepted_with (last_of es).p (last_of es).q (depth_of L es)) (Err Unsound)

-- what a function gives of the numbers of entries are the entries es
abbrev pub Gives : (ℕ → Entry → Type 0) → List Entry → Type 0
Gives post es = (i : ℕ) (e : Entry) → i < length es → post i e → e ≡ get_or es i blank
