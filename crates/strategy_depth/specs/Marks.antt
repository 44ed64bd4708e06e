-- The marks by which the depths of entries (document 02, L8) are found, one a pair: 0 where no entry so far has the pair, else one more than
-- the least depth of those that have it.
use Rattle.std.specs.Prelude.{ℕ, suc, ◌+◌, ◌*◌, ◌<◌, min, max, ◌≡◌, cond, not, ◌&&◌, List, [], ◌∷◌, eqb, get_or}
use Rattle.lts.specs.declared.Entry.{Entry}
use Rattle.lts.specs.Bounded.{largest_below}
use Rattle.lts.specs.System.{Rel, Lts}
use Rattle.lts.specs.Depth.{Measured, measured}
use Rattle.lts.specs.Game.{defender_loses}
use Rattle.transitions.specs.Table.{action_at, target_at}

-- the mark of the pair (p, q), in a list of them
abbrev pub mark_of : List ℕ → ℕ → ℕ → ℕ
mark_of marks p q = get_or marks (256 * p + q) 0

-- the lower of two marks; the second where the first is none
unfoldable pub lowered : ℕ → ℕ → ℕ
lowered old mark = cond (eqb old 0) mark (min old mark)

-- the mark of (p, q) after entries with their depths: each that has the pair lowers it to one more than its depth
unfoldable pub mark_after : List Measured → ℕ → ℕ → ℕ
mark_after [] p q = 0
mark_after (m ∷ ms) p q = cond (eqb m.p p && eqb m.q q) (lowered (mark_after ms p q) (suc m.depth)) (mark_after ms p q)

-- the list holds the marks after the entries
abbrev pub Marked : Lts → List Entry → List ℕ → Type 0
Marked L es marks = (p q : ℕ) → p < 256 → q < 256 → mark_of marks p q ≡ mark_after (measured L [] es) p q

-- the mark of (t, r) where transition number i is by a, into r; 1 where it is by another action
unfoldable pub reply_mark : List ℕ → (ℕ → ℕ → ℕ) → ℕ → ℕ → ℕ → ℕ
reply_mark table marks a t i = cond (eqb (action_at table i) a) (marks t (target_at table i)) 1

-- the pairs that have a mark
abbrev pub marked : (ℕ → ℕ → ℕ) → Rel
marked marks p q = not (eqb (marks p q) 0)

-- the largest mark of a reply, and at least 1; 0 where a reply has none
unfoldable pub reply_depth : Lts → (ℕ → ℕ → ℕ) → ℕ → ℕ → ℕ → ℕ
reply_depth L marks q a t = cond (defender_loses L (marked marks) q a t) (max 1 (largest_below L.states (λ r. cond (L.transition q a r) (marks t r) 0))) 0

-- the mark of an entry: one more than its depth by the marks
unfoldable pub entry_mark : Lts → (ℕ → ℕ → ℕ) → ℕ → ℕ → ℕ → ℕ
entry_mark L marks q a t = cond (eqb a 0) 1 (suc (reply_depth L marks q a t))
