-- The transitions of an Lts in normal order: each is one of the Lts, each of the Lts stands there, and each state's stand together, in the
-- states' order.
use Prim.Native.Nat.{ℕ, zero, suc, ◌+◌, ◌-◌, ◌≤◌, ◌<◌}
use mathlib.Core.Path.{◌≡◌, refl, ap, ◌∙◌}
use mathlib.Core.Bool.{Bool, true}
use mathlib.Core.List.{List, [], ◌∷◌, ◌++◌, map, map-append}
use native.Mathlib.Omega.{arith}
use native.Mathlib.Nat.{not-suc-le-zero, le_refl}
use native.Mathlib.Numerals.{add-one}
use native.Mathlib.Decide.{dec_lt}
use lib.ListN.{length, get_or, length-map}
use Rattle.lts.specs.Bounded.{sum_below, count_below, passing, concat_below}
use Rattle.lts.specs.System.{Lts}
use Rattle.lts.specs.Transitions.{Transition, transitions_to, transitions_by, transitions_of, transitions_below, transitions}
use Rattle.lts.proofs.Count.{sum-cong, length-concat}
use Rattle.lts.proofs.Lists.{Every, every-at, every_more, every_map, passing-keeps, passing-more, passing-room, passing-place, concat-length, concat-grows, concat-at, concat-room, concat-keeps, length-passing}

-- number i of a list of transitions
unfoldable pub nth : List Transition → ℕ → Transition
nth l i = get_or l i (record { source = 0; action = 0; target = 0 })

pub every-nth : (P : Transition → Type 0) (l : List Transition) (j : ℕ) → Every P l → j < length l → P (nth l j)
unfolding nth
every-nth P l j e k = every-at P _ l j e k

-- ## By action
module _ (L : Lts) (p : ℕ) where
  pub by-none : transitions_by L p 0 ≡ []
  unfolding transitions_by concat_below
  by-none = refl

  pub by-more : (a : ℕ) → transitions_by L p (a + 1) ≡ transitions_by L p a ++ transitions_to p (a + 1) (passing L.states (L.transition p (a + 1)))
  unfolding transitions_by concat_below
  by-more a = rw add-one

  pub by-grows : (n a : ℕ) → a ≤ n → length (transitions_by L p a) ≤ length (transitions_by L p n)
  unfolding transitions_by
  by-grows n a l = concat-grows _ n a l

  pub by_all : (a : ℕ) → a ≡ L.actions → transitions_by L p a ≡ transitions_of L p
  unfolding transitions_of
  by_all a e = rw e

-- ## By state
module _ (L : Lts) where
  pub up_none : transitions_below L 0 ≡ []
  unfolding transitions_below concat_below
  up_none = refl

  pub up_more : (p : ℕ) → transitions_below L (p + 1) ≡ transitions_below L p ++ transitions_of L p
  unfolding transitions_below concat_below
  up_more p = rw add-one

  pub up-length : (p : ℕ) → length (transitions_below L (suc p)) ≡ length (transitions_below L p) + length (transitions_of L p)
  unfolding transitions_below
  up-length p = concat-length _ p

  pub up-grows : (n p : ℕ) → p ≤ n → length (transitions_below L p) ≤ length (transitions_below L n)
  unfolding transitions_below
  up-grows n p l = concat-grows _ n p l

-- ## Each is a transition of the Lts
pub record Valid (L : Lts) (p : ℕ) (x : Transition) : Type 0 where
  pub source : x.source ≡ p
  pub low : 1 ≤ x.action
  pub high : x.action ≤ L.actions
  pub target : x.target < L.states
  pub is : L.transition p x.action x.target ≡ true

-- of the states below n
pub record Sourced (L : Lts) (n : ℕ) (x : Transition) : Type 0 where
  pub under : x.source < n
  pub valid : Valid L x.source x

module _ (L : Lts) where
  pub of-keeps : (p : ℕ) → Every (Valid L p) (transitions_of L p)
  unfolding transitions_of transitions_by transitions_to
  of-keeps p =
      concat-keeps _ (Valid L p) L.actions (λ a l.
      every_map (Valid L p) _ (passing L.states (L.transition p (suc a)))
      (passing-keeps (L.transition p (suc a)) _ L.states (λ t k e. record { source = refl; low = omega arith; high = l; target = k; is = e })))

  pub all_keep : (n : ℕ) → Every (Sourced L n) (transitions_below L n)
  unfolding transitions_below
  all_keep n =
      concat-keeps _ (Sourced L n) n (λ p l.
      every_more (Valid L p) (Sourced L n) (transitions_of L p)
      (λ x v. record { under = rw v.source l; valid = record { source = refl; low = v.low; high = v.high; target = v.target; is = rw v.source v.is } })
      (of-keeps p))

  -- ## Where a state's transitions stand
  pub state-nth : (n p i : ℕ) → p < n → i < length (transitions_of L p) → nth (transitions_below L n) (length (transitions_below L p) + i) ≡ nth (transitions_of L p) i
  unfolding nth transitions_below
  state-nth n p i l u = concat-at _ _ n p i l u

  pub source_is : (n p i : ℕ) → p < n → length (transitions_below L p) ≤ i → i < length (transitions_below L (suc p)) → (nth (transitions_below L n) i).source ≡ p
  source_is n p i l u v =
      let z = up-length L p in
      let c = i - length (transitions_below L p) in
      let e : i ≡ length (transitions_below L p) + c = omega arith in
      let k : c < length (transitions_of L p) = omega arith in
      rw (e, state-nth n p c l k) (every-nth (Valid L p) (transitions_of L p) c (of-keeps p) k).source

  -- the state in whose row number i stands
  pub record Row (n i : ℕ) : Type 0 where
    pub state : ℕ
    pub under : state < n
    pub low : length (transitions_below L state) ≤ i
    pub high : i < length (transitions_below L (suc state))

  pub row : (n i : ℕ) → i < length (transitions_below L n) → Row n i
  row zero i u = absurd (not-suc-le-zero (rw (up_none L) at u))
  row (suc n) i u = go (row n i) (dec_lt i (length (transitions_below L n)))
    where
      go : (i < length (transitions_below L n) → Row n i) → Dec (i < length (transitions_below L n)) → Row (suc n) i
      go r (yes k) = let q = r k in record { state = q.state; under = let w = q.under in omega arith; low = q.low; high = q.high }
      go r (no k) = record { state = n; under = le_refl _; low = omega (arith, k); high = u }

  -- rows follow each other in the states' order
  pub row-order : (n i j : ℕ) → i < j → (p : Row n i) (q : Row n j) → p.state ≤ q.state
  row-order n i j l p q = go (dec_lt q.state p.state)
    where
      go : Dec (q.state < p.state) → p.state ≤ q.state
      go (yes d) =
          let r = up-grows L p.state (suc q.state) d in
          let m = q.high in
          let o = p.low in
          absurd (omega (arith, r, m, o))
      go (no d) = omega (arith, d)

  -- a transition after state p's leaves a later state
  pub later : (n p i : ℕ) → length (transitions_below L (suc p)) ≤ i → i < length (transitions_below L n) → p < (nth (transitions_below L n) i).source
  later n p i l u =
      let r = row n i u in
      rw (source_is n r.state i r.under r.low r.high) (go r (dec_lt p r.state))
    where
      go : (r : Row n i) → Dec (p < r.state) → p < r.state
      go r (yes k) = k
      go r (no k) = absurd (let g = up-grows L (suc p) (suc r.state) (omega (arith, k)) in let v = r.high in omega (arith, g, v))

-- ## Each transition of the Lts stands there
map_at : (g : ℕ → Transition) (l : List ℕ) (i : ℕ) → i < length l → nth (map g l) i ≡ g (get_or l i 0)
unfolding nth
map_at g [] i u = absurd (not-suc-le-zero u)
map_at g (x ∷ l) zero u = refl
map_at g (x ∷ l) (suc i) u = map_at g l i (omega arith)

module _ (L : Lts) (p a t : ℕ) (k : a < L.actions) (u : t < L.states) (e : L.transition p (suc a) t ≡ true) where
  -- its place among the transitions out of p
  pub of-place : ℕ
  of-place = length (transitions_by L p a) + length (passing t (L.transition p (suc a)))

  inner : length (passing t (L.transition p (suc a))) < length (transitions_to p (suc a) (passing L.states (L.transition p (suc a))))
  unfolding transitions_to
  inner = rw length-map (passing-room (L.transition p (suc a)) L.states t u e)

  pub of_room : of-place < length (transitions_of L p)
  unfolding of-place transitions_of transitions_by
  of_room = concat-room _ L.actions a _ k inner

  to-nth : nth (transitions_to p (suc a) (passing L.states (L.transition p (suc a)))) (length (passing t (L.transition p (suc a))))
      ≡ record { source = p; action = suc a; target = get_or (passing L.states (L.transition p (suc a))) (length (passing t (L.transition p (suc a)))) 0 }
  unfolding transitions_to
  to-nth = map_at _ (passing L.states (L.transition p (suc a))) _ (passing-room (L.transition p (suc a)) L.states t u e)

  by-nth : nth (transitions_of L p) of-place ≡ nth (transitions_to p (suc a) (passing L.states (L.transition p (suc a)))) (length (passing t (L.transition p (suc a))))
  unfolding nth of-place transitions_of transitions_by
  by-nth = concat-at _ _ L.actions a _ k inner

  pub of-nth : nth (transitions_of L p) of-place ≡ record { source = p; action = suc a; target = t }
  of-nth = by-nth ∙ (to-nth ∙ ap (λ v. record { source = p; action = suc a; target = v }) (passing-place (L.transition p (suc a)) L.states t u e))

  pub placed : (n : ℕ) → p < n
      → (i : ℕ) × (i < length (transitions_below L n)) × (nth (transitions_below L n) i ≡ record { source = p; action = suc a; target = t })
  placed n l = (length (transitions_below L p) + of-place, room, state-nth L n p of-place l of_room ∙ of-nth)
    where
      room : length (transitions_below L p) + of-place < length (transitions_below L n)
      room = let g = up-grows L n (suc p) l in let z = up-length L p in let r = of_room in omega arith

-- ## The transitions by one action
module _ (p a : ℕ) where
  pub to_none : (f : ℕ → Bool) → transitions_to p a (passing 0 f) ≡ []
  unfolding transitions_to passing
  to_none f = refl

  pub to-more : (f : ℕ → Bool) (t : ℕ) → f t ≡ true
      → transitions_to p a (passing (t + 1) f) ≡ transitions_to p a (passing t f) ++ (record { source = p; action = a; target = t } ∷ [])
  unfolding transitions_to
  to-more f t e = rw (passing-more f t e) (map-append _ (passing t f) (t ∷ []))

  pub to-length : (l : List ℕ) → length (transitions_to p a l) ≡ length l
  unfolding transitions_to
  to-length l = length-map l _

-- ## How many they are
module _ (L : Lts) where
  pub of-sum : (p : ℕ) → length (transitions_of L p) ≡ sum_below L.actions (λ a. count_below L.states (L.transition p (suc a)))
  unfolding transitions_of transitions_by
  of-sum p =
      length-concat L.actions _
      ∙ sum-cong L.actions _ _ (λ a. to-length p (suc a) _ ∙ length-passing L.states (L.transition p (suc a)))

  pub all-sum : length (transitions L) ≡ sum_below L.states (λ p. length (transitions_of L p))
  unfolding transitions transitions_below
  all-sum = length-concat L.states _
