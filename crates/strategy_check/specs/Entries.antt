-- The entries that a list of numbers carries, by their number: what the loops of the check go through.
use Rattle.std.specs.Prelude.{ℕ, suc, ◌+◌, ◌*◌, ◌%◌, ◌≡◌, Bool, true, false, cond, not, ◌&&◌, ◌||◌, List, eqb, ltb, get_or, set}
use Rattle.lts.specs.Bounded.{any_below}
use Rattle.lts.specs.System.{Rel, Lts}
use Rattle.lts.specs.declared.Entry.{Entry}
use Rattle.lts.specs.Strategy.{accepted}
use Rattle.lts.specs.Depth.{depth_of}
use Rattle.lts.specs.Game.{defender_loses}
use Rattle.strategy_depth.specs.Marks.{mark_of, lowered, entry_mark}

-- entry number e of the list: four numbers, p, q, a, t
unfoldable pub entry_of : List ℕ → ℕ → Entry
entry_of xs e = record { p = get_or xs (4 * e) 0; q = get_or xs (4 * e + 1) 0; a = get_or xs (4 * e + 2) 0; t = get_or xs (4 * e + 3) 0 }

-- entry j holds the pair (t, r)
unfoldable pub holds_pair : List ℕ → ℕ → ℕ → ℕ → Bool
holds_pair xs t r j = eqb (get_or xs (4 * j) 0) t && eqb (get_or xs (4 * j + 1) 0) r

-- an entry before number e holds the pair (t, r)
unfoldable pub held_before : List ℕ → ℕ → Rel
held_before xs e t r = any_below e (holds_pair xs t r)

-- for each transition q, a, r an entry before number e holds (t, r)
unfoldable pub replies_held : Lts → List ℕ → ℕ → ℕ → ℕ → ℕ → Bool
replies_held L xs e q a t = defender_loses L (held_before xs e) q a t

-- a = t = 0 and (p, q) is outside the starting preorder
unfoldable pub outside : Rel → ℕ → ℕ → ℕ → ℕ → Bool
outside start p q a t = eqb a 0 && eqb t 0 && not (start p q)

-- the entry p, q, a, t is sound over the entries before number e; entry e is sound over those before it
unfoldable pub sound_over : Lts → Rel → List ℕ → ℕ → ℕ → ℕ → ℕ → ℕ → Bool
sound_over L start xs e p q a t =
    ltb p L.states && ltb q L.states && (outside start p q a t || L.transition p a t && replies_held L xs e q a t)

unfoldable pub sound_at : Lts → Rel → List ℕ → ℕ → Bool
sound_at L start xs e = sound_over L start xs e (get_or xs (4 * e) 0) (get_or xs (4 * e + 1) 0) (get_or xs (4 * e + 2) 0) (get_or xs (4 * e + 3) 0)

-- Entry e is checked, and its pair marked: an unsound one gets 0, and the marks stay. A sound one gets one more than its depth by the marks of the pairs so far,
-- and its pair's mark is lowered to that.
pub record Marking (L : Lts) (start : Rel) (xs : List ℕ) (e : ℕ) (marks : List ℕ) (mark : ℕ) (other : List ℕ) : Type 0 where
  pub unsound : sound_at L start xs e ≡ false → (mark ≡ 0) × (other ≡ marks)
  pub own : sound_at L start xs e ≡ true → mark ≡ entry_mark L (mark_of marks) (entry_of xs e).q (entry_of xs e).a (entry_of xs e).t
  pub pair : sound_at L start xs e ≡ true
      → other ≡ set marks (256 * (entry_of xs e).p + (entry_of xs e).q) (lowered (mark_of marks (entry_of xs e).p (entry_of xs e).q) mark % 65536)

-- the mark of a strategy: one more than its depth; 0 where it is not accepted
unfoldable pub strategy_mark : Lts → Rel → List Entry → ℕ
strategy_mark L start es = cond (accepted L start es) (suc (depth_of L es)) 0
