-- Sets that are gathered from a table, number by number. Assumes nothing.
use Prim.Native.Nat.{ℕ, ◌+◌, ◌≤◌, ◌<◌}
use mathlib.Core.Path.{◌≡◌, refl, sym, ap, ap₂, ◌∙◌, subst, subst⁻¹}
use mathlib.Core.Logic.{◌⊎◌, inl, inr, ⊎_elim}
use mathlib.Core.Bool.{Bool, true, false, ◌&&◌, ◌||◌, and-false, and-true}
use mathlib.Core.List.{List}
use native.Mathlib.Omega.{arith}
use lib.Dec.{T, eqb, eqb→eq}
use lib.ListN.{replicate}
use borrow.Author.Tests.{eq-eqb, ne_eqb, le-ltb, eqb-true}
use Rattle.lts.specs.Bounded.{any_below}
use Rattle.lts.specs.System.{Set, into}
use Rattle.lts.proofs.Bounded.{and-iff, any-iff, test-ext}
use Rattle.lts.proofs.Below.{eqb-sym, either, true-T, T_true, neither, any-no, any-shorter, and-fst, and-snd, clash}
use Rattle.lts.proofs.System.{into-to, into-from}
use Rattle.rows.specs.Rows.{in_row, row_of}
use Rattle.rows.proofs.Rows.{gathered, picked, picked_all, row_of-cong, in_row-of, in_row-zeros}
use Rattle.transitions.specs.Table.{states_of, count_of, mark_at, offset_at, source_at, action_at, target_at, is_entry, enters, table_lts, Formed}
use Rattle.transitions.proofs.Entries.{eqb_of, entry-leads, entry_of, table-formed, offset-most, InRow, Between, between_none, between_more, row-transition, transition-row}

-- what was gathered, by another test of the same states
pub gathered-same : (H : ℕ → ℕ → Bool) (i : ℕ) (S : Set) → ((q : ℕ) → q < 256 → any_below i (H q) ≡ S q) → gathered (replicate 4 0) H i ≡ row_of 4 S
gathered-same H i S same = row_of-cong 4 _ _ (λ q h. ap (λ (b : Bool). b || any_below i (H q)) (in_row-zeros 4 q) ∙ same q h)

pub gathered-late : (H : ℕ → ℕ → Bool) (i j : ℕ) → ((q : ℕ) → any_below i (H q) ≡ any_below j (H q)) → gathered (replicate 4 0) H i ≡ gathered (replicate 4 0) H j
gathered-late H i j same = row_of-cong 4 _ _ (λ q h. ap (λ (b : Bool). in_row (replicate 4 0) q || b) (same q))

-- ---- the successors of a state by an action: the numbers of its row

module _ (t : List ℕ) (ok : Formed t) (p a : ℕ) (hp : p < states_of t) where
  abbrev pub leads : ℕ → ℕ → Bool
  leads q i = is_entry t p a q i

  -- number i is not p's
  leads-not : (q i : ℕ) → (source_at t i ≡ p → ⊥) → leads q i ≡ false
  unfolding is_entry
  leads-not q i ne = rw (ne_eqb (source_at t i) p ne)

  pub leads-on : (i : ℕ) → offset_at t p ≤ i → i < offset_at t (p + 1) → action_at t i ≡ a → (q : ℕ) → leads q i ≡ eqb q (target_at t i)
  unfolding is_entry
  leads-on i l h e q = rw (eq-eqb (source_at t i) p (ok.leaves p i hp l h), eq-eqb (action_at t i) a e) (eqb-sym (target_at t i) q)

  pub leads-off : (i : ℕ) → (action_at t i ≡ a → ⊥) → (q : ℕ) → leads q i ≡ false
  unfolding is_entry
  leads-off i ne q = rw (ne_eqb (action_at t i) a ne, and-false)

  pub leads-start : (q : ℕ) → any_below 0 (leads q) ≡ any_below (offset_at t p) (leads q)
  leads-start q =
      sym (any-no 0 (leads q) (λ i h. absurd (omega (arith, h))))
      ∙ any-no (offset_at t p) (leads q) (λ i h. leads-not q i (λ e.
      let low : i < count_of t = omega (arith, h, offset-most t ok p (omega (arith, hp))) in
      let r = subst (λ (x : ℕ). offset_at t x ≤ i) e (ok.row i low).0 in
      omega (arith, h, r)))

  pub leads-end : (q : ℕ) → any_below (offset_at t (p + 1)) (leads q) ≡ (table_lts t).transition p a q
  unfolding table_lts
  leads-end q =
      let up : p + 1 ≤ states_of t = omega (arith, hp) in
      sym (any-shorter (offset_at t (p + 1)) (count_of t) (leads q) (offset-most t ok (p + 1) up) (λ i l h. leads-not q i (λ e.
      let r = subst (λ (x : ℕ). i < offset_at t (x + 1)) e (ok.row i h).1 in
      omega (arith, l, r))))

-- a number that is no state is no target
pub no_target : (table : List ℕ) → Formed table → (p a t : ℕ) → states_of table ≤ t → (table_lts table).transition p a t ≡ false
unfolding table_lts
no_target table ok p a t h = go (either ((table_lts table).transition p a t))
  where
    go : ((table_lts table).transition p a t ≡ true) ⊎ ((table_lts table).transition p a t ≡ false) → (table_lts table).transition p a t ≡ false
    go (inr f) = f
    go (inl u) = absurd (let below = (table-formed table ok).target p a t (true-T _ u) in omega (arith, h, below))

-- a state is a target exactly if the set of the targets, as it was made, has it
pub target-in : (table : List ℕ) → Formed table → (p a : ℕ) {t : ℕ} {row : List ℕ} → t < states_of table
    → row ≡ row_of 4 ((table_lts table).transition p a) → in_row row t ≡ (table_lts table).transition p a t
target-in table ok p a {t} h e = ap (λ (l : List ℕ). in_row l t) e ∙ in_row-of 4 ((table_lts table).transition p a) t (omega (arith, h, ok.states))

-- ---- the terminating states

module _ (t : List ℕ) where
  -- the states with the end mark, picked out one by one
  pub terminating-picked : picked (λ p. eqb (mark_at t p) 1) (states_of t) ≡ row_of 4 (table_lts t).terminating
  unfolding table_lts
  terminating-picked = picked_all (λ p. eqb (mark_at t p) 1) (states_of t)

  -- the row of the terminating states has them, and no number that is no state's
  module _ {ends : List ℕ} (e : ends ≡ row_of 4 (table_lts t).terminating) where
    pub terminating-at : (q : ℕ) → q < 256 → in_row ends q ≡ (table_lts t).terminating q
    terminating-at q h = ap (λ (l : List ℕ). in_row l q) e ∙ in_row-of 4 (table_lts t).terminating q h

    pub terminating-clear : (q : ℕ) → states_of t ≤ q → q < 256 → in_row ends q ≡ false
    unfolding table_lts
    terminating-clear q l h = terminating-at q h ∙ rw (le-ltb q (states_of t) l)

-- ---- the states with a transition by an action into a set

module _ (t : List ℕ) (a : ℕ) (X : Set) where
  abbrev pub hit : ℕ → ℕ → Bool
  hit q i = eqb q (source_at t i) && enters t a X i

  pub hit-on : (i : ℕ) → enters t a X i ≡ true → (q : ℕ) → hit q i ≡ eqb q (source_at t i)
  hit-on i e q = rw e (and-true (eqb q (source_at t i)))

  pub hit-off : (i : ℕ) → enters t a X i ≡ false → (q : ℕ) → hit q i ≡ false
  hit-off i e q = rw e (and-false (eqb q (source_at t i)))

  pub into-table : Formed t → (q : ℕ) → into (table_lts t) a X q ≡ any_below (count_of t) (hit q)
  unfolding enters
  into-table ok q = test-ext _ _ to from
    where
      to : T (into (table_lts t) a X q) → T (any_below (count_of t) (hit q))
      to e =
          let s = into-to (table_lts t) a X q e in
          let i = entry_of t q a s.0 s.1 in
          let j = i.0 in
          let two = (and-iff (eqb (action_at t j) a) (X (target_at t j))).1 (eqb_of i.3, subst⁻¹ (λ (x : ℕ). T (X x)) i.4 s.2) in
          (any-iff (count_of t) (hit q)).1 (j, i.1, (and-iff (eqb q (source_at t j)) (eqb (action_at t j) a && X (target_at t j))).1 (eqb_of (sym i.2), two))

      from : T (any_below (count_of t) (hit q)) → T (into (table_lts t) a X q)
      from e =
          let s = (any-iff (count_of t) (hit q)).0 e in
          let j = s.0 in
          let f = (and-iff (eqb q (source_at t j)) (eqb (action_at t j) a && X (target_at t j))).0 s.2 in
          let g = (and-iff (eqb (action_at t j) a) (X (target_at t j))).0 f.1 in
          into-from (table-formed t ok) a X q (target_at t j, entry-leads t j s.1 (sym (eqb→eq _ _ f.0)) (eqb→eq _ _ g.0) refl, g.1)

  -- along the row of p, what was found below number i: one that enters X, or none
  pub record Looked (p i : ℕ) (found : Bool) : Type 0 where
    pub some : found ≡ true → true ≡ into (table_lts t) a X p
    pub none : found ≡ false → Between (λ j. enters t a X j ≡ false) (offset_at t p) i

  pub looked-start : (p i : ℕ) → i ≤ offset_at t p → Looked p i false
  looked-start p i l = record { some = λ e. absurd (clash e refl); none = λ _. between_none _ _ _ l }

  module _ (ok : Formed t) (p : ℕ) (hp : p < states_of t) where
    into-found : (i : ℕ) → InRow t ok p i → enters t a X i ≡ true → true ≡ into (table_lts t) a X p
    unfolding enters
    into-found i r e = sym (T_true _ (into-from (table-formed t ok) a X p (
      target_at t i,
      true-T _ (row-transition t ok p hp i r (eqb-true _ _ (and-fst (eqb (action_at t i) a) (X (target_at t i)) e)) refl),
      true-T _ (and-snd (eqb (action_at t i) a) (X (target_at t i)) e),
    )))

    into-none : Between (λ i. enters t a X i ≡ false) (offset_at t p) (offset_at t (p + 1)) → false ≡ into (table_lts t) a X p
    unfolding enters
    into-none none = ⊎_elim (λ (e : into (table_lts t) a X p ≡ true).
        let s = into-to (table_lts t) a X p (true-T _ e) in
        let i = transition-row t ok p hp a s.0 (T_true _ s.1) in
        let here : eqb (action_at t i.0) a && X (target_at t i.0) ≡ true = ap₂ ◌&&◌ (eq-eqb (action_at t i.0) a i.2) (ap X i.3 ∙ T_true _ s.2) in
        absurd (clash here (none i.0 i.1.0 i.1.1))) sym (either (into (table_lts t) a X p))

    pub looked-more : (i : ℕ) (found here : Bool) → Looked p i found → InRow t ok p i → here ≡ enters t a X i → Looked p (i + 1) (found || here)
    looked-more i found here l r e = record {
      some = λ h. ⊎_elim (λ (f : found ≡ true). l.some f)
          (λ (f : found ≡ false). into-found i r (sym e ∙ sym (ap (λ (b : Bool). b || here) f) ∙ h)) (either found);
      none = λ h. let both = neither found here h in between_more _ _ _ (l.none both.0) (sym e ∙ both.1);
    }

    pub looked-done : (i : ℕ) (found : Bool) → Looked p i found → offset_at t (p + 1) ≤ i → found ≡ into (table_lts t) a X p
    looked-done i found l high = ⊎_elim (λ (f : found ≡ true). f ∙ l.some f)
        (λ (f : found ≡ false). f ∙ into-none (λ j low below. l.none f j low (omega (arith, below, high)))) (either found)
