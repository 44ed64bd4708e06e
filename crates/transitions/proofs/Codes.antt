-- Action and target of a transition as one number: within a state these numbers rise in normal order, and hold each transition.
use Prim.Native.Nat.{ℕ, zero, suc, ◌+◌, ◌*◌, ◌≤◌, ◌<◌}
use mathlib.Core.Path.{◌≡◌, refl}
use mathlib.Core.Bool.{Bool, true, false, cond, false≢true, or-true}
use mathlib.Core.List.{List, [], ◌∷◌, ◌++◌, map, map-append}
use native.Mathlib.Omega.{arith}
use native.Mathlib.Nat.{not-suc-le-zero, le_refl, add-zero, add-suc}
use borrow.Author.Tests.{eq-eqb, ne_eqb, eqb-true}
use lib.ListN.{length}
use lib.Dec.{eqb}
use Rattle.lts.specs.Bounded.{passing, concat_below}
use Rattle.lts.specs.System.{Lts}
use Rattle.encoding.specs.Encoding.{member, distinct}
use Rattle.lts.specs.Transitions.{Transition, transitions_to, transitions_by, transitions_of}
use Rattle.lts.proofs.Lists.{Every, every_append, every_more, every_map, passing-keeps}
use Rattle.lts.proofs.Transitions.{nth, Valid, of-keeps, of-place, of_room, of-nth}

unfoldable pub code : Transition → ℕ
code x = 256 * x.action + x.target

-- ## Rising lists
abbrev pub Rising : ℕ → List ℕ → Type 0
Rising b [] = Unit {0}
Rising b (x ∷ l) = (b ≤ x) × Rising (suc x) l

rising_down : (a b : ℕ) (l : List ℕ) → a ≤ b → Rising b l → Rising a l
rising_down a b [] k r = tt
rising_down a b (x ∷ l) k r = (let z = r.0 in omega arith, r.1)

rising-append : (b m : ℕ) (k l : List ℕ) → b ≤ m → Rising b k → Every (λ x. x < m) k → Rising m l → Rising b (k ++ l)
rising-append b m [] l u r e q = rising_down b m l u q
rising-append b m (x ∷ k) l u r e q = (r.0, rising-append (suc x) m k l e.0 r.1 e.1 q)

pub rising-out : (x b : ℕ) (l : List ℕ) → x < b → Rising b l → member x l ≡ false
unfolding member
rising-out x b [] u r = refl
rising-out x b (y ∷ l) u r = let z = r.0 in rw (ne_eqb x y (λ e. omega arith), rising-out x (suc y) l (omega arith) r.1)

rising-distinct : (b : ℕ) (l : List ℕ) → Rising b l → distinct l ≡ true
unfolding distinct
rising-distinct b [] r = refl
rising-distinct b (x ∷ l) r = rw (rising-out x (suc x) l (le_refl _) r.1, rising-distinct (suc x) l r.1)

rising-shift : (c b : ℕ) (l : List ℕ) → Rising b l → Rising (c + b) (map (λ t. c + t) l)
rising-shift c b [] r = tt
rising-shift c b (x ∷ l) r = (let z = r.0 in omega arith, rw add-suc at (rising-shift c (suc x) l r.1))

passing-rising : (n : ℕ) (g : ℕ → Bool) → Rising 0 (passing n g)
unfolding passing
passing-rising zero g = tt
passing-rising (suc n) g =
    rising-append 0 n (passing n g) (cond (g n) (n ∷ []) []) (omega arith) (passing-rising n g) (passing-keeps g (λ x. x < n) n (λ t l e. l)) (one (g n))
  where
    one : (b : Bool) → Rising n (cond b (n ∷ []) [])
    one true = (le_refl n, tt)
    one false = tt

-- ## In a list of transitions
member-nth : (l : List Transition) (i : ℕ) → i < length l → member (code (nth l i)) (map code l) ≡ true
unfolding member nth
member-nth [] i u = absurd (not-suc-le-zero u)
member-nth (x ∷ l) zero u = rw (eq-eqb (code x) (code x) refl)
member-nth (x ∷ l) (suc i) u = rw (member-nth l i (omega arith)) (or-true (eqb (code (nth l i)) (code x)))

rising-above : (b : ℕ) (l : List Transition) (i : ℕ) → Rising b (map code l) → i < length l → b ≤ code (nth l i)
unfolding nth
rising-above b [] i r u = absurd (not-suc-le-zero u)
rising-above b (x ∷ l) zero r u = r.0
rising-above b (x ∷ l) (suc i) r u = let z = rising-above (suc (code x)) l i r.1 (omega arith) in let y = r.0 in omega (arith, z, y)

rising-nth : (b : ℕ) (l : List Transition) (i j : ℕ) → Rising b (map code l) → i < j → j < length l → code (nth l i) < code (nth l j)
unfolding nth
rising-nth b [] i j r k u = absurd (not-suc-le-zero u)
rising-nth b (x ∷ l) i zero r k u = absurd (not-suc-le-zero k)
rising-nth b (x ∷ l) zero (suc j) r k u = rising-above (suc (code x)) l j r.1 (omega arith)
rising-nth b (x ∷ l) (suc i) (suc j) r k u = rising-nth (suc (code x)) l i j r.1 (omega arith) (omega arith)

pub every-member : (Q : ℕ → Type 0) (x : ℕ) (l : List ℕ) → Every Q l → member x l ≡ true → Q x
unfolding member
every-member Q x [] r e = absurd (false≢true e)
every-member Q x (y ∷ l) r e = go (every-member Q x l r.1) (eqb x y) refl
  where
    go : (member x l ≡ true → Q x) → (b : Bool) → eqb x y ≡ b → Q x
    go i true q = rw (eqb-true x y q) r.0
    go i false q = i (rw q at e)

-- ## The codes of a state's transitions rise
to_codes : (p a : ℕ) (l : List ℕ) → map code (transitions_to p a l) ≡ map (λ t. 256 * a + t) l
unfolding code transitions_to
to_codes p a [] = refl
to_codes p a (x ∷ l) = rw (to_codes p a l)

module _ (L : Lts) (few : L.states ≤ 256) (p : ℕ) where
  by-rising : (a : ℕ) → Rising 0 (map code (transitions_by L p a)) × Every (λ x. x < 256 * (a + 1)) (map code (transitions_by L p a))
  unfolding transitions_by concat_below
  by-rising zero = (tt, tt)
  by-rising (suc a) =
      let ih = by-rising a in
      let k = map code (transitions_by L p a) in
      let l = passing L.states (L.transition p (suc a)) in
      let c = 256 * suc a in
      rw (map-append, to_codes p (suc a) l) (
        rising-append 0 c k (map (λ t. c + t) l) (omega arith) ih.0 (every_more (λ x. x < 256 * (a + 1)) (λ x. x < c) k (λ x u. omega arith) ih.1)
            (rw add-zero at (rising-shift c 0 l (passing-rising L.states (L.transition p (suc a))))),
        every_append (λ x. x < 256 * (suc a + 1)) k (map (λ t. c + t) l) (every_more (λ x. x < 256 * (a + 1)) (λ x. x < 256 * (suc a + 1)) k (λ x u. omega arith) ih.1)
            (every_map (λ x. x < 256 * (suc a + 1)) (λ t. c + t) l
            (passing-keeps (L.transition p (suc a)) (λ t. c + t < 256 * (suc a + 1)) L.states (λ t u e. omega arith))),
      )

  pub codes-up : Rising 0 (map code (transitions_of L p))
  unfolding transitions_of
  codes-up = (by-rising L.actions).0

  pub codes-distinct : distinct (map code (transitions_of L p)) ≡ true
  codes-distinct = rising-distinct 0 _ codes-up

  pub codes-rising : (i j : ℕ) → i < j → j < length (transitions_of L p) → code (nth (transitions_of L p) i) < code (nth (transitions_of L p) j)
  unfolding transitions_of
  codes-rising i j l u = rising-nth 0 (transitions_by L p L.actions) i j (by-rising L.actions).0 l u

  -- ## They hold each transition
  of_code : (a t : ℕ) (k : a < L.actions) (u : t < L.states) (e : L.transition p (suc a) t ≡ true) → code (nth (transitions_of L p) (of-place L p a t k u e)) ≡ 256 * suc a + t
  unfolding code
  of_code a t k u e = rw (of-nth L p a t k u e)

  pub codes-in : (a t : ℕ) → a < L.actions → t < L.states → L.transition p (suc a) t ≡ true → member (256 * suc a + t) (map code (transitions_of L p)) ≡ true
  codes-in a t k u e = rw (of_code a t k u e) at (member-nth (transitions_of L p) (of-place L p a t k u e) (of_room L p a t k u e))

  pub codes-out : (a t : ℕ) → t < 256 → member (256 * a + t) (map code (transitions_of L p)) ≡ true → L.transition p a t ≡ true
  unfolding code
  codes-out a t u e =
      every-member (λ y. y ≡ 256 * a + t → L.transition p a t ≡ true) (256 * a + t) (map code (transitions_of L p))
      (every_map (λ y. y ≡ 256 * a + t → L.transition p a t ≡ true) code (transitions_of L p)
      (every_more (Valid L p) _ (transitions_of L p) (λ x v q. hit x v q) (of-keeps L p)))
      e refl
    where
      hit : (x : Transition) → Valid L p x → 256 * x.action + x.target ≡ 256 * a + t → L.transition p a t ≡ true
      hit x v q =
          let to = v.target in
          let ea : x.action ≡ a = omega arith in
          let et : x.target ≡ t = omega arith in
          rw (← ea, ← et) v.is
