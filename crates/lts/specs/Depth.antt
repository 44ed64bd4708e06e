-- The depth of a strategy (of a plan): document 02, L8.
use Rattle.std.specs.Prelude.{ℕ, suc, ◌+◌, ◌*◌, ◌-◌, ◌≤◌, ◌<◌, min, ◌≡◌, cond, not, ◌&&◌, List, [], ◌∷◌, T, eqb, length, get_or}
use Rattle.lts.specs.declared.Entry.{Entry}
use Rattle.lts.specs.Bounded.{largest_below}
use Rattle.lts.specs.System.{Rel, Lts}
use Rattle.lts.specs.Rounds.{refuted_at}
use Rattle.lts.specs.Strategy.{accepted, last_of, blank, strategy}

-- an earlier entry's pair, and its depth
pub record Measured : Type 0 where
  pub p : ℕ
  pub q : ℕ
  pub depth : ℕ

-- the depths of the entries with pair (p, q)
unfoldable pub depths_at : List Measured → ℕ → ℕ → List ℕ
depths_at [] p q = []
depths_at (m ∷ ms) p q = cond (eqb m.p p && eqb m.q q) (m.depth ∷ depths_at ms p q) (depths_at ms p q)

-- the least of a list; 0 of the empty one
unfoldable pub least : List ℕ → ℕ
least [] = 0
least (x ∷ []) = x
least (x ∷ y ∷ l) = min x (least (y ∷ l))

-- the least depth among earlier entries with the pair (p, q)
unfoldable pub least_depth : List Measured → ℕ → ℕ → ℕ
least_depth earlier p q = least (depths_at earlier p q)

-- The depth of an entry: 0 for a = 0, else one more than the largest, over the replies r of q by a, of the least depth of (t, r), which
-- `depths` gives; so 1 where q has no transition by a.
unfoldable pub depth_over : Lts → (ℕ → ℕ → ℕ) → Entry → ℕ
depth_over L depths e =
    cond (eqb e.a 0) 0 (suc (largest_below L.states (λ r. cond (L.transition e.q e.a r) (depths e.t r) 0)))

unfoldable pub measure : Lts → List Measured → Entry → Measured
measure L earlier e = record { p = e.p; q = e.q; depth = depth_over L (least_depth earlier) e }

-- the entries of the list with their depths, after the earlier ones; the last stands first
unfoldable pub measured : Lts → List Measured → List Entry → List Measured
measured L earlier [] = earlier
measured L earlier (e ∷ es) = measured L (measure L earlier e ∷ earlier) es

-- the depth of the last entry
unfoldable pub first_depth : List Measured → ℕ
first_depth [] = 0
first_depth (m ∷ ms) = m.depth

unfoldable pub depth_of : Lts → List Entry → ℕ
depth_of L es = first_depth (measured L [] es)

-- ---- L8's sentence, where depth i is the depth of entry i (from 0)

-- entry i holds the pair (p, q)
abbrev pub HoldsAt : List Entry → ℕ → ℕ → ℕ → Type 0
HoldsAt es i p q = ((get_or es i blank).p ≡ p) × ((get_or es i blank).q ≡ q)

-- d is the least depth among the entries before number i with the pair (p, q)
pub record LeastBefore (es : List Entry) (depth : ℕ → ℕ) (i p q d : ℕ) : Type 0 where
  pub found : (j : ℕ) × (j < i) × HoldsAt es j p q × (depth j ≡ d)
  pub most : (j : ℕ) → j < i → HoldsAt es j p q → d ≤ depth j

-- k is the largest, over the replies r of q by a, of the least depth among the entries before entry i with the pair (t, r)
pub record LargestReply (L : Lts) (es : List Entry) (depth : ℕ → ℕ) (i k : ℕ) : Type 0 where
  pub found : (r : ℕ) × T (L.transition (get_or es i blank).q (get_or es i blank).a r) × LeastBefore es depth i (get_or es i blank).t r k
  pub most : (r : ℕ) → T (L.transition (get_or es i blank).q (get_or es i blank).a r)
      → (d : ℕ) × LeastBefore es depth i (get_or es i blank).t r d × (d ≤ k)

-- the depth of entry i: 0 for a = 0, 1 where q has no transition by a, else one more than that largest
pub record EntryDepth (L : Lts) (es : List Entry) (depth : ℕ → ℕ) (i : ℕ) : Type 0 where
  pub outside : (get_or es i blank).a ≡ 0 → depth i ≡ 0
  pub unmatched : 0 < (get_or es i blank).a → ((r : ℕ) → T (not (L.transition (get_or es i blank).q (get_or es i blank).a r))) → depth i ≡ 1
  pub matched : 0 < (get_or es i blank).a → (r : ℕ) → T (L.transition (get_or es i blank).q (get_or es i blank).a r)
      → (k : ℕ) × LargestReply L es depth i k × (depth i ≡ suc k)

-- each entry has its depth, and d is the last one's
pub record LastDepth (L : Lts) (es : List Entry) (d : ℕ) : Type 0 where
  pub depth : ℕ → ℕ
  pub each : (i : ℕ) → i < length es → EntryDepth L es depth i
  pub last : d ≡ depth (length es - 1)

-- What L8 says of the depths of strategies.
pub record Depths (L : Lts) (preorder : Rel) : Type 0 where
  -- an accepted strategy's depth is that of its last entry, by the sentence above
  pub depth : (es : List Entry) → T (accepted L preorder es) → LastDepth L es (depth_of L es)
  -- the written strategy's depth is the round in which its pair falls
  pub written : (p q j : ℕ) → p < L.states → q < L.states → T (refuted_at L preorder j p q) → depth_of L (strategy L preorder p q) ≡ j
  -- and every accepted strategy that ends in this pair has at least that depth
  pub least : (es : List Entry) (j : ℕ) → T (accepted L preorder es) → T (refuted_at L preorder j (last_of es).p (last_of es).q) → j ≤ depth_of L es
  -- no accepted strategy has a depth above n * (n - 1) + 1
  pub most : (es : List Entry) → T (accepted L preorder es) → depth_of L es ≤ L.states * (L.states - 1) + 1
