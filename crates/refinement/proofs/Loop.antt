-- The engine's loop over a transition table: what holds whenever its test is reached, and what follows.
use Prim.Native.Nat.{ℕ, ◌+◌, ◌*◌, ◌%◌, ◌≤◌, ◌<◌}
use native.Mathlib.Nat.{mul-le-mul}
use native.Mathlib.Numerals.{add-one}
use native.Mathlib.Omega.{arith}
use mathlib.Core.Path.{◌≡◌, refl, sym, ◌∙◌, ap, ap₂, subst}
use mathlib.Core.Bool.{true, false, ◌&&◌}
use mathlib.Core.Logic.{⊎_elim}
use mathlib.Core.List.{List}
use lib.Dec.{T, ltb}
use lib.ListN.{length, get_or}
use Rattle.lts.specs.Bounded.{any_below, passing}
use Rattle.lts.specs.System.{Rel, Lts, WellFormed, any_state}
use Rattle.lts.specs.Refinement as Refinement
use Rattle.lts.specs.Refinement.{Relations, Run, initial, block, each_action, chosen, coarsest}
use Rattle.lts.proofs.Below.{T_true, clash, lt-or-ge}
use Rattle.lts.proofs.System.{Preorder}
use Rattle.lts.proofs.Step.{block-iff}
use Rattle.lts.proofs.Run.{coarsest-is}
use Rattle.rows.specs.Rows.{in_row, row_of}
use Rattle.relation.specs.Matrix.{relation_of, matrix_of}
use Rattle.relation.proofs.Matrices.{matrix_of-cong}
use Rattle.sets.specs.Sets.{set_at, sets_of}
use Rattle.sets.specs.Parts.{Parted, Owned}
use Rattle.sets.proofs.Lists.{sets-in, sets-cong, sets-long}
use Rattle.transitions.specs.Table.{states_of, table_lts, Formed}
use Rattle.transitions.proofs.Entries.{table-formed}
use Rattle.adjacency.specs.Adjacency.{Index}
use Rattle.partition.proofs.Laws as partition
use Rattle.refinement.specs.Engine.{relations_of, Steady, Stepping, Made, State, Start}
use Rattle.refinement.proofs.Laws.{untrue, all_in, all-below, held-inside, state-begin, state-steady, state-next, state-end, state-below, chosen-below}
use Rattle.refinement.proofs.Pending.{pending_at}

-- where the loop stands at its test: what was reached, the pending representatives, and the states that share a block
pub record At (t start schedule : List ℕ) (steps : ℕ) (related viewed blocks shared pending : List ℕ) : Type 0 where
  pub state : State (table_lts t) (relation_of (states_of t) start) schedule steps related viewed blocks
  pub pending-is : pending ≡ row_of 4 (pending_at related viewed blocks)
  pub parts : Parted (set_at blocks) (in_row shared)

-- a step fewer than n * n is a number
pub small-steps : (n steps : ℕ) → n ≤ 256 → steps < n * n → steps < 65536
small-steps n steps l h = let s = mul-le-mul l l in omega (arith, s, h)

module _ {t start : List ℕ} (ok : Formed t) (st : Start (states_of t) start) where
  abbrev n : ℕ
  n = states_of t

  abbrev L : Lts
  L = table_lts t

  abbrev from : Rel
  from = relation_of n start

  wf : WellFormed L
  wf = table-formed t ok

  pre : Preorder L from
  unfolding table_lts
  pre = record { loop = st.loop; chain = st.chain }

  few : L.states ≤ 256
  unfolding table_lts
  few = ok.states

  -- the blocks of the relation that a list holds
  blocks-of : (K : Rel) {related : List ℕ} → related ≡ sets_of 256 K → sets_of 256 (block (set_at related)) ≡ sets_of 256 (block K)
  unfolding block
  blocks-of K e = sets-cong 256 _ _ (λ p q h l. ap₂ ◌&&◌ (sets-in 256 K e p q h l) (sets-in 256 K e q p l h))

  pub loop-begin : (schedule related viewed blocks : List ℕ) → related ≡ sets_of 256 (initial L from).related → viewed ≡ sets_of 256 (initial L from).viewed
      → blocks ≡ sets_of 256 (block (set_at related)) → State L from schedule 0 related viewed blocks
  loop-begin schedule related viewed blocks e d b = state-begin L wf from pre schedule few related viewed blocks e d (b ∙ blocks-of _ e)

  -- ---- K and the blocks at the end, as matrices

  -- they have no pair outside the states
  final-below : (schedule : List ℕ) (p q : ℕ) → T ((coarsest L from schedule).final.related p q) → q < n
  unfolding table_lts
  final-below schedule p q e = ((coarsest-is L wf from pre schedule).simulates.states e).1

  pub related-clear : (schedule list : List ℕ) → list ≡ sets_of 256 (coarsest L from schedule).final.related → (p q : ℕ) → p < n → n ≤ q → q < 256 → set_at list p q ≡ false
  related-clear schedule list is p q h l u = sets-in 256 _ is p q (omega (arith, h, ok.states)) u ∙ untrue _ (λ e. omega (arith, final-below schedule p q e, l))

  pub blocks-clear : (schedule list : List ℕ) → list ≡ sets_of 256 (block (coarsest L from schedule).final.related) → (p q : ℕ) → p < n → n ≤ q → q < 256 → set_at list p q ≡ false
  blocks-clear schedule list is p q h l u =
      sets-in 256 _ is p q (omega (arith, h, ok.states)) u ∙ untrue _ (λ e. omega (arith, final-below schedule p q ((block-iff (coarsest L from schedule).final.related p q).0 e).0, l))

  pub matrix-of-list : (R : Rel) (list : List ℕ) {grid : List ℕ} {m : ℕ} → m ≡ n → list ≡ sets_of 256 R → grid ≡ matrix_of m (set_at list) → grid ≡ matrix_of n R
  matrix-of-list R list same is e =
      e ∙ ap (λ (m : ℕ). matrix_of m (set_at list)) same
      ∙ matrix_of-cong n _ _ (λ p q h l. sets-in 256 R is p q (omega (arith, h, ok.states)) (omega (arith, l, ok.states)))

  module _ {schedule : List ℕ} {steps : ℕ} {related viewed blocks : List ℕ} (state : State L from schedule steps related viewed blocks) where
    abbrev s : Relations
    s = relations_of n related viewed

    pub long-related : length related ≡ 1024
    long-related = sets-long 256 _ state.related-is

    pub long-viewed : length viewed ≡ 1024
    long-viewed = sets-long 256 _ state.viewed-is

    pub long-blocks : length blocks ≡ 1024
    long-blocks = sets-long 256 _ state.blocks_is

    pub steady : (b : ℕ) → Steady L b s
    unfolding table_lts
    steady = state-steady L wf from pre schedule few steps related viewed blocks state

    same-related : (p q : ℕ) → p < 256 → q < 256 → set_at related p q ≡ s.related p q
    unfolding relations_of table_lts
    same-related = sets-in 256 _ state.related-is

    same-viewed : (p q : ℕ) → p < 256 → q < 256 → set_at viewed p q ≡ s.viewed p q
    unfolding relations_of table_lts
    same-viewed = sets-in 256 _ state.viewed-is

    same_blocks : (p q : ℕ) → p < 256 → q < 256 → set_at blocks p q ≡ block s.related p q
    unfolding relations_of table_lts
    same_blocks = sets-in 256 _ state.blocks_is

    inside : (p q : ℕ) → T (s.related p q) → (p < n) × (q < n)
    unfolding relations_of
    inside = held-inside n related

    reflexive : (g : ℕ) → g < n → T (s.related g g)
    unfolding table_lts each_action
    reflexive g h = ((steady 0).during 0).loop h

    held : (p q : ℕ) → p < 256 → q < 256 → set_at blocks p q ≡ true → T (block s.related p q)
    held p q l u e = subst T (sym e ∙ same_blocks p q l u) tt

    -- the relations agree below n, and have no other pair
    close : (p q : ℕ) → p < n → q < n → (p < 256) × (q < 256)
    close p q h l = (omega (arith, h, ok.states), omega (arith, l, ok.states))

    related-close : (p q : ℕ) → p < n → q < n → set_at related p q ≡ s.related p q
    related-close p q h l = let u = close p q h l in same-related p q u.0 u.1

    viewed-close : (p q : ℕ) → p < n → q < n → set_at viewed p q ≡ s.viewed p q
    viewed-close p q h l = let u = close p q h l in same-viewed p q u.0 u.1

    blocks-close : (p q : ℕ) → p < n → q < n → set_at blocks p q ≡ block (set_at related) p q
    unfolding block
    blocks-close p q h l = let u = close p q h l in same_blocks p q u.0 u.1 ∙ sym (ap₂ ◌&&◌ (related-close p q h l) (related-close q p l h))

    related-in : (p q : ℕ) → p < 256 → q < 256 → set_at related p q ≡ true → (p < n) × (q < n)
    related-in p q h l e = inside p q (subst T (sym e ∙ same-related p q h l) tt)

    viewed-in : (p q : ℕ) → p < 256 → q < 256 → set_at viewed p q ≡ true → (p < n) × (q < n)
    unfolding relations_of
    viewed-in p q h l e = held-inside n viewed p q (subst T (sym e ∙ same-viewed p q h l) tt)

    size : L.states ≡ n
    unfolding table_lts
    size = refl

    module _ {all : List ℕ} (all-is : all ≡ row_of 4 (λ q. ltb q n)) where
      within : (q : ℕ) → q < n → in_row all q ≡ true
      within q h = all_in n all-is q (omega (arith, h, ok.states)) h

      -- the blocks are blocks, and a state outside the set of all states has none
      pub parted-first : Parted (set_at blocks) (in_row all)
      unfolding table_lts each_action
      parted-first = record {
        sym = λ g h hg hh e. let u = (block-iff s.related g h).0 (held g h hg hh e) in same_blocks h g hh hg ∙ T_true _ ((block-iff s.related h g).1 (u.1, u.0));
        trans = λ g h k hg hh hk e d.
            let 𝓑 = (steady 0).during 0 in
            let u = (block-iff s.related g h).0 (held g h hg hh e) in
            let v = (block-iff s.related h k).0 (held h k hh hk d) in
            same_blocks g k hg hk ∙ T_true _ ((block-iff s.related g k).1 (𝓑.shift_l v.0 u.1 u.0, 𝓑.shift_r v.1 u.1 u.0));
        single = λ g h hg hh out e. absurd (clash (within g (inside g h ((block-iff s.related g h).0 (held g h hg hh e)).0).0) out);
      }

      pub owned-first : Owned (set_at blocks) (in_row all)
      owned-first g h e = let r = reflexive g (all-below n all-is g h e) in same_blocks g g h h ∙ T_true _ ((block-iff s.related g g).1 (r, r))

      -- the pending set without a state is right outside the set of all states
      pub pending-first : (none : List ℕ) → ((q : ℕ) → in_row none q ≡ false) → (p : ℕ) → p < 256 → in_row all p ≡ false → in_row none p ≡ pending_at related viewed blocks p
      pending-first none zero p h out =
          let l : n ≤ p = ⊎_elim (λ (u : p < n). absurd (clash (within p u) out)) (λ (u : n ≤ p). u) (lt-or-ge p n) in
          zero p ∙ sym (partition.pending-off L s n (set_at related) (set_at viewed) (set_at blocks) ok.states size related-close viewed-close blocks-close related-in viewed-in p l h)

    -- the pending ones are those of the rule
    module _ {pending : List ℕ} (pending-is : pending ≡ row_of 4 (pending_at related viewed blocks)) where
      any-is : any_below 256 (in_row pending) ≡ any_state L (Refinement.pending L s)
      any-is = partition.any-is L s n (set_at related) (set_at viewed) (set_at blocks) ok.states size related-close viewed-close blocks-close related-in viewed-in pending pending-is

      module _ (some : any_below 256 (in_row pending) ≡ true) where
        any : T (any_state L (Refinement.pending L s))
        any = subst T (sym some ∙ any-is) tt

        pub loop-below : steps < n * n
        unfolding table_lts
        loop-below = state-below L wf from pre schedule few steps related viewed blocks state any

        module _ (b : ℕ) (chose : b ≡ get_or (passing 256 (in_row pending)) (get_or schedule steps 0 % length (passing 256 (in_row pending))) 0) where
          b-is : b ≡ chosen L (get_or schedule steps 0) s
          b-is =
              chose
              ∙ partition.chosen_is L s n (set_at related) (set_at viewed) (set_at blocks) ok.states size related-close viewed-close blocks-close related-in viewed-in pending pending-is (get_or schedule steps 0)

          pub b-below : b < n
          unfolding table_lts
          b-below = subst (λ (x : ℕ). x < n) (sym b-is) (chosen-below L wf from pre schedule few steps related viewed blocks state (get_or schedule steps 0) any)

          pub loop-step : {places rows all shared : List ℕ} → Index t places rows → all ≡ row_of 4 (λ q. ltb q n) → Parted (set_at blocks) (in_row shared)
              → Stepping t places rows all b related viewed blocks shared
          unfolding table_lts
          loop-step index all-is parts = record {
            index = index;
            all-is = all-is;
            begun = record { low = b-below; related-is = state.related-is; viewed-is = state.viewed-is; blocks_is = state.blocks_is; parts = parts };
            steady = steady b;
          }

          pub loop-next : {shared related' viewed' blocks' touched : List ℕ} → Made t b shared related viewed blocks related' viewed' blocks' touched → State L from schedule (steps + 1) related' viewed' blocks'
          unfolding table_lts
          loop-next {related' = related'} {viewed'} {blocks'} made =
              rw add-one (state-next L wf from pre schedule few steps related viewed blocks state b related' viewed' blocks' any b-is made.related-is made.viewed-is made.blocks_is)

      module _ (none : any_below 256 (in_row pending) ≡ false) where
        ended : coarsest L from schedule ≡ record { final = s; steps = steps }
        unfolding table_lts
        ended = state-end L wf from pre schedule few steps related viewed blocks state (λ u. subst T (sym any-is ∙ none) u)

        pub end-steps : steps ≡ (coarsest L from schedule).steps
        end-steps = sym (ap (λ (r : Run). r.steps) ended)

        pub end-related : related ≡ sets_of 256 (coarsest L from schedule).final.related
        unfolding table_lts relations_of
        end-related = state.related-is ∙ sym (ap (λ (r : Run). sets_of 256 r.final.related) ended)

        pub end-blocks : blocks ≡ sets_of 256 (block (coarsest L from schedule).final.related)
        unfolding table_lts relations_of
        end-blocks = state.blocks_is ∙ sym (ap (λ (r : Run). sets_of 256 (block r.final.related)) ended)
