-- Maps, and the links between the states that go to one state. Assumes nothing.
use Prim.Native.Nat.{ℕ, ◌+◌, ◌-◌, ◌≤◌, ◌<◌}
use mathlib.Core.Path.{◌≡◌, refl, sym, ap, ◌∙◌, subst}
use mathlib.Core.Bool.{Bool, true, false, ◌&&◌, ◌||◌, and-false}
use mathlib.Core.List.{List}
use native.Mathlib.Omega.{arith}
use native.Mathlib.Nat.{le_refl, not-suc-le-zero, zero-add}
use native.Mathlib.Decide.{ℕ_discrete}
use lib.Dec.{eqb, ltb}
use lib.ListN.{length, get_or, set, take, drop, replicate, length-set, length-replicate, get_or-replicate}
use borrow.Rule.Slice.PartMut.{put_mid, same_len_mid}
use borrow.Author.Rules.{rules}
use Rattle.std.proofs.lemmas.List.{places, length-take-le, length-drop, get_or-take, get_or-drop}
use lib.Seq.{get_or-set_same, get_or-set_other}
use borrow.Author.Tests.{eq-eqb, ne_eqb, eqb-true, lt-ltb, le-ltb, ltb-true}
use Rattle.lts.specs.Bounded.{any_below}
use Rattle.lts.specs.System.{Set}
use Rattle.lts.proofs.Below.{and-fst, and-snd, any-cong, any-shorter, any-more, any-yes}
use Rattle.rows.specs.Rows.{Next}
use Rattle.transitions.specs.Maps.{state_to, action_to, Raises, goes_to, first_to, next_to, Linked}

-- ---- maps of actions, and maps that raise states

-- action a + 1 is as it is, too
pub keeps-action : (to : List ℕ) (a : ℕ) → a < 64 → length to ≡ 65 → ((b : ℕ) → 1 ≤ b → b ≤ a → get_or to b 0 ≡ b)
    → (b : ℕ) → 1 ≤ b → b ≤ a + 1 → get_or (set to (a + 1) (a + 1)) b 0 ≡ b
keeps-action to a low long kept b l k = go (ℕ_discrete b (a + 1))
  where
    go : Dec (b ≡ a + 1) → get_or (set to (a + 1) (a + 1)) b 0 ≡ b
    go (yes e) = rw e (get_or-set_same to (a + 1) (a + 1) 0 (omega (arith, low, long)))
    go (no e) = get_or-set_other to (a + 1) b (a + 1) 0 e ∙ kept b l (omega (arith, k, e))

pub raises-start : {shift : ℕ} {to maps : List ℕ} → length maps ≡ 321 → Raises 0 0 shift to maps
raises-start e = record { long = e; state = λ p l. absurd (not-suc-le-zero l); action = λ a l k. absurd (omega (arith, l, k)) }

pub raises-state : {shift : ℕ} {to maps : List ℕ} (p : ℕ) → p < 256 → Raises p 0 shift to maps → Raises (p + 1) 0 shift to (set maps p (shift + p))
raises-state {shift} {to} {maps} p low r = record {
  long = length-set maps p (shift + p) ∙ r.long;
  state = λ q l. go q (omega (arith, l)) (ℕ_discrete q p);
  action = λ a l k. absurd (omega (arith, l, k));
}
  where
    go : (q : ℕ) → q ≤ p → Dec (q ≡ p) → state_to (set maps p (shift + p)) q ≡ shift + q
    go q l (yes e) = rw e (get_or-set_same maps p (shift + p) 0 (omega (arith, low, r.long)))
    go q l (no e) = get_or-set_other maps p q (shift + p) 0 e ∙ r.state q (omega (arith, l, e))

-- in a list with a part replaced, what is before the part, and what is in it
put-below : (at k i : ℕ) (xs ys : List ℕ) → i < at → at ≤ length xs → get_or (put_mid at k xs ys) i 0 ≡ get_or xs i 0
put-below at k i xs ys l fits = search (rules, places)

put-within : (at k i : ℕ) (xs ys : List ℕ) → i < length ys → at ≤ length xs → get_or (put_mid at k xs ys) (at + i) 0 ≡ get_or ys i 0
put-within at k i xs ys l fits = search (rules, places)

-- the actions 1 to m are put behind the states
pub raises-actions : {n m shift : ℕ} {to maps new : List ℕ} (k j : ℕ) → k ≡ m → j ≡ m → n ≤ 256 → m ≤ 64 → length to ≡ 65
    → new ≡ take j (drop 1 to) → Raises n 0 shift to maps → Raises n m shift to (put_mid 257 k maps new)
raises-actions {n} {m} {shift} {to} {maps} {new} k j k-is j-is few low long is r = record {
  long = same_len_mid 257 k maps new (omega (arith, size, length-take-le k (drop 257 maps) (omega (arith, length-drop 257 maps, r.long)))) ∙ r.long;
  state = λ p l. put-below 257 k p maps new (omega arith) (omega (arith, r.long)) ∙ r.state p l;
  action = λ a l u.
      ap (λ (i : ℕ). get_or (put_mid 257 k maps new) i 0) (place a l)
      ∙ put-within 257 k (a - 1) maps new (omega (arith, size)) (omega (arith, r.long))
      ∙ ap (λ (x : List ℕ). get_or x (a - 1) 0) is
      ∙ get_or-take j (drop 1 to) (a - 1) 0 (omega arith)
      ∙ get_or-drop 1 to (a - 1) 0
      ∙ ap (λ (i : ℕ). get_or to i 0) (number a l);
}
  where
    size : length new ≡ m
    size = ap length is ∙ length-take-le j (drop 1 to) (omega (arith, length-drop 1 to)) ∙ j-is

    place : (a : ℕ) → 1 ≤ a → 256 + a ≡ 257 + (a - 1)
    place a l = omega arith

    number : (a : ℕ) → 1 ≤ a → 1 + (a - 1) ≡ a
    number a l = omega arith

-- n states and the actions 1 to m are as they are
pub record Keeps (n m : ℕ) (maps : List ℕ) : Type 0 where
  pub state : (p : ℕ) → p < n → state_to maps p ≡ p
  pub action : (a : ℕ) → 1 ≤ a → a ≤ m → action_to maps a ≡ a

pub raises-keeps : {n m : ℕ} {to maps : List ℕ} → Raises n m 0 to maps → ((a : ℕ) → 1 ≤ a → a ≤ m → get_or to a 0 ≡ a) → Keeps n m maps
raises-keeps r same = record { state = λ p l. r.state p l ∙ zero-add p; action = λ a l k. r.action a l k ∙ same a l k }

-- ---- the states that go to one state

module _ (n : ℕ) (maps : List ℕ) where
  goes : (p : ℕ) → p < n → goes_to n maps (state_to maps p) p ≡ true
  unfolding goes_to
  goes p l = rw (lt-ltb p n l, eq-eqb (state_to maps p) (state_to maps p) refl)

  goes-not : (i p : ℕ) → (state_to maps p ≡ i → ⊥) → goes_to n maps i p ≡ false
  unfolding goes_to
  goes-not i p d = rw (ne_eqb (state_to maps p) i d, and-false (ltb p n))

  goes-out : (i p : ℕ) → n ≤ p → goes_to n maps i p ≡ false
  unfolding goes_to
  goes-out i p l = rw (le-ltb p n l)

  pub goes-state : (i p : ℕ) → goes_to n maps i p ≡ true → p < n
  unfolding goes_to
  goes-state i p e = ltb-true p n (and-fst _ (eqb (state_to maps p) i) e)

  goes-there : (i p : ℕ) → goes_to n maps i p ≡ true → state_to maps p ≡ i
  unfolding goes_to
  goes-there i p e = eqb-true (state_to maps p) i (and-snd (ltb p n) _ e)

  -- the next state that goes to state i after one that does
  pub linked-next : {links : List ℕ} → Linked n maps links → (i p : ℕ) → goes_to n maps i p ≡ true → Next (goes_to n maps i) 256 (p + 1) (next_to links p)
  linked-next {links} k i p e =
      subst (λ (j : ℕ). Next (goes_to n maps j) 256 (p + 1) (next_to links p)) (goes-there i p e) (k.next p (goes-state i p e))

-- ---- linking from the last state down

-- the states from p on are linked
pub record Linking (n : ℕ) (maps : List ℕ) (p : ℕ) (links : List ℕ) : Type 0 where
  pub long : length links ≡ 512
  pub up : p ≤ n
  pub first : (i : ℕ) → i < 256 → Next (goes_to n maps i) 256 p (first_to links i)
  pub next : (q : ℕ) → p ≤ q → q < n → Next (goes_to n maps (state_to maps q)) 256 (q + 1) (next_to links q)

pub linking-start : (n : ℕ) (maps : List ℕ) → n ≤ 256 → Linking n maps n (replicate 512 256)
linking-start n maps few = record {
  long = length-replicate {A = ℕ} 512 256;
  up = le_refl n;
  first = λ i l. rw (get_or-replicate {A = ℕ} 512 i 256 0 (omega arith)) (record {
    above = few;
    below = le_refl 256;
    none = λ q u v. goes-out n maps i q u;
    member = λ u. absurd (omega (arith, u));
  });
  next = λ q u v. absurd (omega (arith, u, v));
}

module _ {n : ℕ} {maps links : List ℕ} (p : ℕ) (g : Linking n maps (p + 1) links) (few : n ≤ 256) (i : ℕ) (is : i ≡ state_to maps p) (low : i < 256) where
  l₁ : List ℕ
  l₁ = set links (256 + p) (get_or links i 0)

  at_first : get_or (set l₁ i p) i 0 ≡ p
  unfolding l₁
  at_first = get_or-set_same l₁ i p 0 (omega (arith, length-set links (256 + p) (get_or links i 0), g.long))

  at_next : get_or (set l₁ i p) (256 + p) 0 ≡ get_or links i 0
  unfolding l₁
  at_next =
      get_or-set_other l₁ i (256 + p) p 0 (λ e. omega (arith, e, low))
      ∙ get_or-set_same links (256 + p) (get_or links i 0) 0 (omega (arith, g.long, g.up, few))

  at_other : (j : ℕ) → (j ≡ i → ⊥) → (j ≡ 256 + p → ⊥) → get_or (set l₁ i p) j 0 ≡ get_or links j 0
  unfolding l₁
  at_other j x y = get_or-set_other l₁ i j p 0 x ∙ get_or-set_other links (256 + p) j (get_or links i 0) 0 y

  -- state p is the first, from p on, of those that go where it goes
  here : Next (goes_to n maps i) 256 p p
  here = record {
    above = le_refl p;
    below = omega (arith, g.up, few);
    none = λ q u v. absurd (omega (arith, u, v));
    member = λ u. rw is (goes n maps p (omega (arith, g.up)));
  }

  down : (j r : ℕ) → (j ≡ i → ⊥) → Next (goes_to n maps j) 256 (p + 1) r → Next (goes_to n maps j) 256 p r
  down j r d x = record {
    above = omega (arith, x.above);
    below = x.below;
    none = λ q u v. go q u v (ℕ_discrete q p);
    member = x.member;
  }
    where
      go : (q : ℕ) → p ≤ q → q < r → Dec (q ≡ p) → goes_to n maps j q ≡ false
      go q u v (yes e) = rw e (goes-not n maps j p (λ f. d (sym f ∙ sym is)))
      go q u v (no e) = x.none q (omega (arith, u, e)) v

  pub linking-more : Linking n maps p (set (set links (256 + p) (get_or links i 0)) i p)
  unfolding l₁
  linking-more = record {
    long = length-set l₁ i p ∙ length-set links (256 + p) (get_or links i 0) ∙ g.long;
    up = omega (arith, g.up);
    first = λ j u. first-at j u (ℕ_discrete j i);
    next = λ q u v. next-at q u v (ℕ_discrete q p);
  }
    where
      first-at : (j : ℕ) → j < 256 → Dec (j ≡ i) → Next (goes_to n maps j) 256 p (first_to (set l₁ i p) j)
      first-at j u (yes e) = rw (e, at_first) here
      first-at j u (no e) = rw (at_other j e (λ f. omega (arith, f, u))) (down j _ e (g.first j u))

      next-at : (q : ℕ) → p ≤ q → q < n → Dec (q ≡ p) → Next (goes_to n maps (state_to maps q)) 256 (q + 1) (next_to (set l₁ i p) q)
      next-at q u v (yes e) = rw (e, at_next, ← is) (g.first i low)
      next-at q u v (no e) =
          rw (at_other (256 + q) (λ f. omega (arith, f, low)) (λ f. e (omega (arith, f)))) (g.next q (omega (arith, u, e)) v)

pub linking-done : {n : ℕ} {maps : List ℕ} {p : ℕ} {links : List ℕ} → Linking n maps p links → p ≡ 0 → Linked n maps links
linking-done {n} {maps} {links = links} g e =
    let h = subst (λ (x : ℕ). Linking n maps x links) e g in
    record { first = h.first; next = λ q l. h.next q (omega arith) l }

-- ---- a test of the states that go to one state, from one to the next

module _ {S : Set} {from p : ℕ} (x : Next S 256 from p) (G : ℕ → Bool) where
  pub next-none : any_below p (λ q. S q && G q) ≡ any_below from (λ q. S q && G q)
  next-none = any-shorter from p (λ q. S q && G q) x.above (λ q l u. ap (λ (b : Bool). b && G q) (x.none q l u))

  pub next-any : p < 256 → any_below (p + 1) (λ q. S q && G q) ≡ any_below from (λ q. S q && G q) || G p
  next-any l = any-more (λ q. S q && G q) p ∙ ap (λ (b : Bool). b || (S p && G p)) next-none ∙ ap (λ (b : Bool). any_below from (λ q. S q && G q) || (b && G p)) (x.member l)

-- over all of them it is the test of the states below n
pub goes-any : (n : ℕ) (maps : List ℕ) (i : ℕ) (G : ℕ → Bool) → n ≤ 256
    → any_below 256 (λ q. goes_to n maps i q && G q) ≡ any_below n (λ q. eqb (state_to maps q) i && G q)
unfolding goes_to
goes-any n maps i G few =
    any-shorter n 256 (λ q. goes_to n maps i q && G q) few (λ q l u. ap (λ (b : Bool). b && G q) (goes-out n maps i q l))
    ∙ any-cong n _ _ (λ q l. ap (λ (b : Bool). b && eqb (state_to maps q) i && G q) (lt-ltb q n l))

-- ---- a search among the members of S

-- G holds of no member of S below `done`, and p is the next member
pub record Seeking (S : Set) (G : ℕ → Bool) (p : ℕ) : Type 0 where
  pub done : ℕ
  pub next : Next S 256 done p
  pub none : any_below done (λ q. S q && G q) ≡ false

pub seeking-start : {S : Set} (G : ℕ → Bool) {p : ℕ} → Next S 256 0 p → Seeking S G p
unfolding any_below
seeking-start G x = record { done = 0; next = x; none = refl }

module _ {S : Set} {G : ℕ → Bool} {p : ℕ} (g : Seeking S G p) where
  pub seeking-more : {q : ℕ} → p < 256 → G p ≡ false → Next S 256 (p + 1) q → Seeking S G q
  seeking-more l e x = record { done = p + 1; next = x; none = next-any g.next G l ∙ rw (g.none, e) }

  pub seeking-found : p < 256 → G p ≡ true → any_below 256 (λ q. S q && G q) ≡ true
  seeking-found l e = sym (any-yes 256 (λ q. S q && G q) p l (rw (g.next.member l, e)))

  pub seeking-done : 256 ≤ p → any_below 256 (λ q. S q && G q) ≡ false
  seeking-done l =
      let b = g.next.below in
      let end : p ≡ 256 = omega (arith, l, b) in
      ap (λ (n : ℕ). any_below n (λ q. S q && G q)) (sym end) ∙ next-none g.next G ∙ g.none
