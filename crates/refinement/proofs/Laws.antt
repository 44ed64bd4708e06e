-- The engine's run: what the lists hold is what the run of the refinement rule has reached.
use Prim.Native.Nat.{ℕ, suc, ◌*◌, ◌%◌, ◌≤◌, ◌<◌}
use native.Mathlib.Nat.{mod-lt}
use mathlib.Core.Path.{◌≡◌, refl, sym, ◌∙◌, ap, ap₂, subst, fun_ext}
use mathlib.Core.Bool.{Bool, true, false}
use mathlib.Core.List.{List}
use native.Mathlib.Omega.{arith}
use lib.Dec.{T, ltb}
use lib.ListN.{length, get_or}
use borrow.Author.Tests.{lt-ltb, ltb-true}
use Rattle.lts.specs.Bounded.{passing, restrict}
use Rattle.lts.specs.System.{Rel, Lts, WellFormed, any_state}
use Rattle.lts.specs.Refinement.{Relations, initial, block, pending, step_of, chosen, step, coarsest}
use Rattle.lts.proofs.Bounded.{test-ext, restrict-iff, restrict-same}
use Rattle.lts.proofs.Count.{passing-at, passing-some}
use Rattle.lts.proofs.System.{Preorder, into-to, into-from}
use Rattle.lts.proofs.Step.{Inv, block-iff, during, step-inv, viewed-shrinks}
use Rattle.lts.proofs.Run.{Reached, begin, next, reached-inv, reached-below, reached-end}
use Rattle.rows.specs.Rows.{in_row, row_of}
use Rattle.sets.specs.Sets.{set_at, sets_of}
use Rattle.sets.proofs.Lists.{set-in, sets-in}
use Rattle.refinement.specs.Engine.{held_by, relations_of, Steady, State}

pub untrue : (x : Bool) → (T x → ⊥) → x ≡ false
untrue false f = refl
untrue true f = absurd (f tt)

-- a set of all states
module _ (n : ℕ) {all : List ℕ} (all-is : all ≡ row_of 4 (λ q. ltb q n)) where
  pub all_in : (q : ℕ) → q < 256 → q < n → in_row all q ≡ true
  all_in q h l = set-in _ all-is q h ∙ lt-ltb q n l

  pub all-below : (q : ℕ) → q < 256 → in_row all q ≡ true → q < n
  all-below q h e = ltb-true q n (sym (set-in _ all-is q h) ∙ e)

-- a relation that holds pairs below n only is its restriction
abbrev pub Inside : ℕ → Rel → Type 0
Inside n R = (p q : ℕ) → T (R p q) → (p < n) × (q < n)

restrict-fixed : (n : ℕ) (R : Rel) → Inside n R → restrict n R ≡ R
restrict-fixed n R f =
    fun_ext (λ p. fun_ext (λ q.
    let e = restrict-iff n R p q in
    test-ext (restrict n R p q) (R p q) (λ t. (e.0 t).2) (λ t. let l = f p q t in e.1 (l.0, l.1, t))))

-- what a list of the sets of such a relation holds
pub held_of : (n : ℕ) (R : Rel) {g : List ℕ} → n ≤ 256 → Inside n R → g ≡ sets_of 256 R → held_by n g ≡ R
unfolding held_by
held_of n R {g} small f e =
    restrict-same n (set_at g) R (λ p q l m. sets-in 256 R e p q (omega (arith, l, small)) (omega (arith, m, small))) ∙ restrict-fixed n R f

-- two lists of the sets of relations that hold pairs below n only
relations-of : (n : ℕ) (s : Relations) (related viewed : List ℕ) → n ≤ 256 → related ≡ sets_of 256 s.related → viewed ≡ sets_of 256 s.viewed
    → Inside n s.related → Inside n s.viewed → relations_of n related viewed ≡ s
unfolding relations_of
relations-of n s related viewed small e d f g =
    ap₂ (λ (K V' : Rel). record { related = K; viewed = V' }) (held_of n s.related small f e) (held_of n s.viewed small g d)

pub held-inside : (n : ℕ) (g : List ℕ) → Inside n (held_by n g)
unfolding held_by
held-inside n g p q t = let r = (restrict-iff n (set_at g) p q).0 t in (r.0, r.1)

-- the list of what a list holds, again
again : (n : ℕ) (R : Rel) {g : List ℕ} → n ≤ 256 → Inside n R → g ≡ sets_of 256 R → g ≡ sets_of 256 (held_by n g)
again n R small f e = e ∙ ap (sets_of 256) (sym (held_of n R small f e))

restrict-inside : (n : ℕ) (R : Rel) → Inside n (restrict n R)
restrict-inside n R p q t = let r = (restrict-iff n R p q).0 t in (r.0, r.1)

module _ (L : Lts) (wf : WellFormed L) (start : Rel) (pre : Preorder L start) (schedule : List ℕ) (small : L.states ≤ 256) where
  abbrev n : ℕ
  n = L.states

  -- the beginning
  pub state-begin : (related viewed blocks : List ℕ) → related ≡ sets_of 256 (initial L start).related → viewed ≡ sets_of 256 (initial L start).viewed
      → blocks ≡ sets_of 256 (block (initial L start).related) → State L start schedule 0 related viewed blocks
  unfolding initial
  state-begin related viewed blocks e d b = record {
    related-is = again n _ small (restrict-inside n _) e;
    viewed-is = again n _ small (restrict-inside n _) d;
    blocks_is = b ∙ ap (λ (R : Rel). sets_of 256 (block R)) (sym (held_of n _ small (restrict-inside n _) e));
    reached = subst (Reached L start schedule 0) (sym (relations-of n (initial L start) related viewed small e d (restrict-inside n _) (restrict-inside n _))) begin;
  }

  module _ (steps : ℕ) (related viewed blocks : List ℕ) (st : State L start schedule steps related viewed blocks) where
    abbrev s : Relations
    s = relations_of n related viewed

    inv : Inv L start s
    inv = reached-inv L wf start pre schedule steps s st.reached

    pub state-steady : (b : ℕ) → Steady L b s
    state-steady b = record {
      spread = λ a g h e.
          let k = (block-iff s.related g h).0 e in
          test-ext _ _ (λ t. into-from wf a (s.viewed b) g (inv.spread a b h g k.1 k.0 (into-to L a (s.viewed b) h t)))
          (λ t. into-from wf a (s.viewed b) h (inv.spread a b g h k.0 k.1 (into-to L a (s.viewed b) g t)));
      during = during L wf start s inv b;
    }

    pub chosen-below : (e : ℕ) → T (any_state L (pending L s)) → chosen L e s < n
    unfolding chosen any_state
    chosen-below e t = (passing-at n (pending L s) (e % length (passing n (pending L s))) (mod-lt e (passing-some n (pending L s) t))).0

    -- one step more
    pub state-next : (b : ℕ) (related' viewed' blocks' : List ℕ) → T (any_state L (pending L s))
        → b ≡ chosen L (get_or schedule steps 0) s
        → related' ≡ sets_of 256 (step_of L b s).related
        → viewed' ≡ sets_of 256 (step_of L b s).viewed
        → blocks' ≡ sets_of 256 (block (step_of L b s).related)
        → State L start schedule (suc steps) related' viewed' blocks'
    unfolding step relations_of
    state-next b related' viewed' blocks' t c e d k = record {
      related-is = again n _ small one e;
      viewed-is = again n _ small two d;
      blocks_is = k ∙ ap (λ (R : Rel). sets_of 256 (block R)) (sym (held_of n _ small one e));
      reached = subst (Reached L start schedule (suc steps)) (ap (λ (x : ℕ). step_of L x s) (sym c) ∙ sym held) (next st.reached t);
    }
      where
        inv' : Inv L start (step_of L b s)
        inv' = step-inv L wf start s inv b

        one : Inside n (step_of L b s).related
        one p q t = (inv'.blocks.source t, inv'.blocks.target t)

        two : Inside n (step_of L b s).viewed
        two p q t = held-inside n viewed p q (viewed-shrinks L wf start s inv b p q t)

        held : relations_of n related' viewed' ≡ step_of L b s
        held = relations-of n (step_of L b s) related' viewed' small e d one two

    -- nothing pending: the run is at its end
    pub state-end : (T (any_state L (pending L s)) → ⊥) → coarsest L start schedule ≡ record { final = s; steps = steps }
    state-end f = reached-end L wf start pre schedule steps s st.reached f

    pub state-below : T (any_state L (pending L s)) → steps < n * n
    state-below t = reached-below L wf start pre schedule steps s st.reached t
