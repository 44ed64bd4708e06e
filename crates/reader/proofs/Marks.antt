-- Laws of marks that are set along chains.
use Prim.Native.Nat.{ℕ, zero, suc, ◌+◌, ◌*◌, ◌≤◌, ◌<◌}
use mathlib.Core.Path.{◌≡◌, refl, sym, ◌∙◌}
use mathlib.Core.Bool.{Bool, true, false, not, ◌&&◌, ◌||◌, false≢true, and-true, and_assoc, or-false}
use mathlib.Core.List.{List, [], ◌∷◌, ◌++◌, map}
use native.Mathlib.Omega.{arith}
use native.Mathlib.Numerals.{add-one}
use native.Mathlib.Nat.{le_refl}
use borrow.Author.Tests.{eq-eqb, ne_eqb, not-true, not-false}
use lib.ListN.{length, get_or, set, length-set}
use lib.Seq.{get_or-set_same, get_or-set_other}
use lib.Dec.{eqb}
use native.Mathlib.Decide.{ℕ_discrete}
use mathlib.Core.Logic.{⊎_elim}
use Rattle.encoding.specs.declared.Header.{Header}
use Rattle.lts.specs.Bounded.{concat_below, lowest}
use Rattle.lts.proofs.Below.{regroup, eqb-sym, all-cong}
use Rattle.encoding.specs.Encoding.{chain, reached, member, on_some_chain, all_reached, distinct, successor}
use Rattle.encoding.specs.Checked.{Recorded, chains_fit}
use Rattle.reader.specs.Marks.{fresh, marked}
use Rattle.lts.proofs.Lists.{split, every_map}
use Rattle.reader.proofs.Lowest.{lowest-all}
use Rattle.encoding.proofs.Chains.{Below, reached-below, chain-all, transition-known}

-- ## Marks along a list: what is left to be marked
pub record Rest (v : ℕ) (m₀ l₀ m l : List ℕ) : Type 0 where
  pub tests : fresh v m₀ l₀ ≡ fresh v m l
  pub marks : marked v m₀ l₀ ≡ marked v m l

pub rest-start : (v : ℕ) (m l : List ℕ) → Rest v m l m l
rest-start v m l = record { tests = refl; marks = refl }

module _ (v : ℕ) (m₀ l₀ m : List ℕ) where
  pub rest_end : (l : List ℕ) → l ≡ [] → Rest v m₀ l₀ m l → (true ≡ fresh v m₀ l₀) × (true ≡ true → m ≡ marked v m₀ l₀)
  unfolding fresh marked
  rest_end l e r = let r' = rw e at r in (sym r'.tests, λ _. sym r'.marks)

  pub rest_clash : (x : ℕ) (l k : List ℕ) → k ≡ x ∷ l → Rest v m₀ l₀ m k → get_or m x 0 ≡ v
      → (false ≡ fresh v m₀ l₀) × (false ≡ true → m ≡ marked v m₀ l₀)
  unfolding fresh
  rest_clash x l k e r t =
      let r' = rw e at r in
      (sym (r'.tests ∙ rw (eq-eqb (get_or m x 0) v t)), λ f. absurd (false≢true f))

  pub rest_more : (x : ℕ) (l k : List ℕ) → k ≡ x ∷ l → Rest v m₀ l₀ m k → (get_or m x 0 ≡ v → ⊥) → Rest v m₀ l₀ (set m x v) l
  unfolding fresh marked
  rest_more x l k e r t =
      let r' = rw e at r in
      record { tests = r'.tests ∙ rw (ne_eqb (get_or m x 0) v t); marks = r'.marks }

-- ## Marks over two lists, one after the other
module _ (v : ℕ) where
  pub fresh-append : (m a b : List ℕ) → fresh v m (a ++ b) ≡ (fresh v m a && fresh v (marked v m a) b)
  unfolding fresh marked
  fresh-append m [] b = refl
  fresh-append m (x ∷ a) b =
      rw (fresh-append (set m x v) a b)
      (sym (and_assoc (not (eqb (get_or m x 0) v)) (fresh v (set m x v) a) (fresh v (marked v (set m x v) a) b)))

  pub marked_append : (m a b : List ℕ) → marked v m (a ++ b) ≡ marked v (marked v m a) b
  unfolding marked
  marked_append m [] b = refl
  marked_append m (x ∷ a) b = marked_append (set m x v) a b

  pub marked-length : (m l : List ℕ) → length (marked v m l) ≡ length m
  unfolding marked
  marked-length m [] = refl
  marked-length m (x ∷ l) = marked-length (set m x v) l ∙ length-set m x v

-- ## The chains of the states below p are marked, and no record twice
pub record Reach (s : List ℕ) (h : Header) (m₀ m : List ℕ) (p : ℕ) : Type 0 where
  pub tests : fresh 1 m₀ (reached s h p) ≡ true
  pub marks : m ≡ marked 1 m₀ (reached s h p)

module _ (s : List ℕ) (h : Header) (m₀ : List ℕ) where
  pub reach-none : Reach s h m₀ m₀ 0
  unfolding reached concat_below fresh marked
  reach-none = record { tests = refl; marks = refl }

  reached-more : (p : ℕ) → reached s h (p + 1) ≡ reached s h p ++ chain s h p
  unfolding reached concat_below
  reached-more p = rw add-one

  one_more : {m : List ℕ} {b : Bool} (p : ℕ) → Reach s h m₀ m p → b ≡ fresh 1 m (chain s h p) → fresh 1 m₀ (reached s h (p + 1)) ≡ b
  one_more p r e = rw (reached-more, fresh-append, r.tests, ← r.marks, e)

  pub reach-more : {m m' : List ℕ} {b : Bool} (p : ℕ) → Reach s h m₀ m p → b ≡ fresh 1 m (chain s h p)
      → (b ≡ true → m' ≡ marked 1 m (chain s h p)) → not b ≡ false → Reach s h m₀ m' (p + 1)
  reach-more {b = b} p r e k t =
      let y = not-false b t in
      record { tests = one_more p r e ∙ y; marks = rw (reached-more, marked_append, ← r.marks) (k y) }

  stays : (n p : ℕ) → p ≤ n → fresh 1 m₀ (reached s h p) ≡ false → fresh 1 m₀ (reached s h n) ≡ false
  unfolding reached concat_below
  stays zero p l f = let e : p ≡ 0 = omega arith in rw e at f
  stays (suc n) p l f =
      ⊎_elim (λ (k : p ≤ n). rw (fresh-append, stays n p k f)) (λ (k : p ≡ suc n). rw k at f) (split n p l)

  pub reach-stop : {m : List ℕ} {b : Bool} {X : Type 0} (n p : ℕ) → p < n → Reach s h m₀ m p → b ≡ fresh 1 m (chain s h p) → not b ≡ true
      → (false ≡ fresh 1 m₀ (reached s h n)) × (false ≡ true → X)
  reach-stop {b = b} n p l r e t =
      (sym (stays n (p + 1) (omega arith) (one_more p r e ∙ not-true b t)), λ f. absurd (false≢true f))

  pub reach-done : {m : List ℕ} (n p : ℕ) → p ≤ n → n ≤ p → Reach s h m₀ m p
      → (true ≡ fresh 1 m₀ (reached s h n)) × (true ≡ true → m ≡ marked 1 m₀ (reached s h n))
  reach-done n p l g r = let e : n ≡ p = omega arith in (rw (e, r.tests), λ _. rw e r.marks)

-- ## Marks from a clean array: no number twice
module _ (v : ℕ) where
  -- whether a place bears the mark after x was marked
  pub mark-at : (m : List ℕ) (x y : ℕ) → x < length m → eqb (get_or (set m x v) y 0) v ≡ (eqb x y || eqb (get_or m y 0) v)
  mark-at m x y l = go (ℕ_discrete y x)
    where
      go : Dec (y ≡ x) → eqb (get_or (set m x v) y 0) v ≡ (eqb x y || eqb (get_or m y 0) v)
      go (yes e) = rw (e, get_or-set_same m x v 0 l, eq-eqb v v refl, eq-eqb x x refl)
      go (no n) = rw (get_or-set_other m x y v 0 n, ne_eqb x y (λ e. n (sym e)))

  -- no place of the list bears the mark
  clear : List ℕ → List ℕ → Bool
  clear m [] = true
  clear m (x ∷ l) = not (eqb (get_or m x 0) v) && clear m l

  swap : (a b c d : Bool) → (not (a || b) && (not c && d)) ≡ (not (a || c) && (not b && d))
  swap true b c d = refl
  swap false true true d = refl
  swap false true false d = refl
  swap false false true d = refl
  swap false false false d = refl

  clear-set : (m : List ℕ) (x : ℕ) (l : List ℕ) → x < length m → clear (set m x v) l ≡ (not (member x l) && clear m l)
  unfolding clear member
  clear-set m x [] k = refl
  clear-set m x (y ∷ l) k =
      rw (mark-at m x y k, clear-set m x l k) (swap (eqb x y) (eqb (get_or m y 0) v) (member x l) (clear m l))

  shuffle : (a d n u : Bool) → (a && (d && (n && u))) ≡ ((n && d) && (a && u))
  shuffle true true true u = refl
  shuffle true true false u = refl
  shuffle true false true u = refl
  shuffle true false false u = refl
  shuffle false true true u = refl
  shuffle false true false u = refl
  shuffle false false true u = refl
  shuffle false false false u = refl

  fresh-clear : (m l : List ℕ) → Below (length m) l → fresh v m l ≡ (distinct l && clear m l)
  unfolding fresh distinct clear
  fresh-clear m [] k = refl
  fresh-clear m (x ∷ l) k =
      rw (fresh-clear (set m x v) l (rw length-set k.1), clear-set m x l k.0)
      (shuffle (not (eqb (get_or m x 0) v)) (distinct l) (not (member x l)) (clear m l))

  all-clear : (m l : List ℕ) → ((i : ℕ) → get_or m i 0 ≡ v → ⊥) → clear m l ≡ true
  unfolding clear
  all-clear m [] n = refl
  all-clear m (x ∷ l) n = rw (ne_eqb (get_or m x 0) v (n x), all-clear m l n)

  pub fresh-distinct : (m l : List ℕ) → Below (length m) l → ((i : ℕ) → get_or m i 0 ≡ v → ⊥) → fresh v m l ≡ distinct l
  fresh-distinct m l k n = rw (fresh-clear m l k, all-clear m l n, and-true)

  marked-at : (m l : List ℕ) (j : ℕ) → Below (length m) l → eqb (get_or (marked v m l) j 0) v ≡ (member j l || eqb (get_or m j 0) v)
  unfolding marked member
  marked-at m [] j k = refl
  marked-at m (x ∷ l) j k =
      rw (marked-at (set m x v) l j (rw length-set k.1), mark-at m x j k.0, eqb-sym x j)
      (regroup (eqb j x) (member j l) (eqb (get_or m j 0) v))

  -- marks stay at most v
  pub marked-bound : (m l : List ℕ) → Below (length m) l → ((i : ℕ) → get_or m i 0 ≤ v) → (i : ℕ) → get_or (marked v m l) i 0 ≤ v
  unfolding marked
  marked-bound m [] k b i = b i
  marked-bound m (x ∷ l) k b i = marked-bound (set m x v) l (rw length-set k.1) (λ y. go y (ℕ_discrete y x)) i
    where
      go : (y : ℕ) → Dec (y ≡ x) → get_or (set m x v) y 0 ≤ v
      go y (yes e) = let f = get_or-set_same m x v 0 k.0 in rw (e, f) (le_refl v)
      go y (no n) = rw (get_or-set_other m x y v 0 n) (b y)

-- ## Rules 5, 16 and 6 by marks
module _ (s : List ℕ) (h : Header) (g : Recorded s h) (m : List ℕ) (long : length m ≡ 1025) (zeros : (i : ℕ) → get_or m i 0 ≡ 0) where
  inside : Below (length m) (reached s h h.states)
  inside = rw long (reached-below s h g)

  pub chains-test : fresh 1 m (reached s h h.states) ≡ distinct (reached s h h.states)
  chains-test = fresh-distinct 1 m _ inside (λ i e. let z = zeros i in omega (arith, z, e))

  pub chains-stop : {b : Bool} → b ≡ fresh 1 m (reached s h h.states) → not b ≡ true → false ≡ chains_fit s h
  unfolding chains_fit
  chains-stop {b} e t = rw (← chains-test, ← e, not-true b t)

  -- the lowest unmarked record is beyond them all exactly where each is reached
  pub chains-done : {r : ℕ} {b : Bool} {m' : List ℕ} → b ≡ fresh 1 m (reached s h h.states) → not b ≡ false
      → (b ≡ true → m' ≡ marked 1 m (reached s h h.states)) → r ≡ lowest h.transitions (λ i. not (eqb (get_or m' (i + 1) 0) 1))
      → eqb r h.transitions ≡ chains_fit s h
  unfolding chains_fit all_reached on_some_chain
  chains-done {r} {b} e t k f =
      let y = not-false b t in
      rw (← chains-test, ← e, y, f, k y)
      (lowest-all h.transitions (λ i. eqb (get_or (marked 1 m (reached s h h.states)) (i + 1) 0) 1) ∙ all-cong h.transitions _ _ λ i l. at i)
    where
      at : (i : ℕ) → eqb (get_or (marked 1 m (reached s h h.states)) (i + 1) 0) 1 ≡ member (i + 1) (reached s h h.states)
      at i = rw (marked-at 1 m _ (i + 1) inside, zeros (i + 1), or-false)

module _ (s : List ℕ) (h : Header) (g : Recorded s h) (p : ℕ) (l : p < h.states) (m : List ℕ) (room : 256 * (h.actions + 1) ≤ length m)
    (old : (i : ℕ) → get_or m i 0 ≤ p) where
  stamp-inside : Below (length m) (map (successor s h) (chain s h p))
  unfolding successor
  stamp-inside =
      every_map (λ x. x < length m) (successor s h) (chain s h p)
      (chain-all s h g (λ j. successor s h j < length m)
      (λ j a b. let r = transition-known s h g j a b in omega (arith, g.sized.bounds.states, r.action, r.target, room)) p l)

  pub stamp-test : {b : Bool} → b ≡ fresh (p + 1) m (map (successor s h) (chain s h p)) → b ≡ distinct (map (successor s h) (chain s h p))
  stamp-test e = e ∙ fresh-distinct (p + 1) m _ stamp-inside (λ i f. let z = old i in omega (arith, z, f))

  pub stamp-next : {b : Bool} {m' : List ℕ} → (b ≡ true → m' ≡ marked (p + 1) m (map (successor s h) (chain s h p))) → not b ≡ false
      → (256 * (h.actions + 1) ≤ length m') × ((i : ℕ) → get_or m' i 0 ≤ p + 1)
  stamp-next {b} k t =
      let e = k (not-false b t) in (
        rw (e, marked-length) room,
        λ i. rw e (marked-bound (p + 1) m _ stamp-inside (λ y. let z = old y in omega (arith, z)) i),
      )
