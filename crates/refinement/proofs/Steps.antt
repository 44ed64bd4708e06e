-- One refinement step on lists of sets is the step of the refinement rule on what they hold.
use Prim.Native.Nat.{ℕ, zero, suc, ◌-◌, ◌^◌, ◌≤◌, ◌<◌}
use native.Mathlib.Omega.{arith}
use mathlib.Core.Path.{◌≡◌, refl, sym, ◌∙◌, ap, ap₂, subst, fun_ext}
use mathlib.Core.Bool.{Bool, true, false, cond, not, ◌&&◌, ◌||◌, and-true, and-false, true≢false}
use mathlib.Core.Logic.{◌⊎◌, inl, inr, ⊎_elim}
use mathlib.Core.List.{List}
use lib.Dec.{T}
use lib.ListN.{get_or}
use Rattle.lts.specs.Bounded.{any_below}
use Rattle.lts.specs.System.{Set, Lts, any_state, into}
use Rattle.lts.specs.Refinement.{Relations, block, remove, each_action, step_of}
use Rattle.lts.proofs.Below.{T_true, any-cong, any-no, and-snd, neither, lt-or-ge}
use Rattle.lts.proofs.Step.{block-iff}
use Rattle.rows.specs.Rows.{bit, in_row, row_of}
use Rattle.rows.proofs.Bits.{bit-word_of, word_of-lt}
use Rattle.sets.specs.Sets.{set_at, sets_of}
use Rattle.sets.specs.Parts.{Parted}
use Rattle.sets.proofs.Lists.{set-in, any-off, sets-in, sets-cong}
use Rattle.transitions.specs.Table.{states_of, actions_of, table_lts, Formed}
use Rattle.transitions.proofs.Entries.{table-formed}
use Rattle.adjacency.specs.Adjacency.{actions_entering}
use Rattle.splitting.proofs.Laws.{hit-free, refined-cong, split-blocks-cong, SameRel}
use Rattle.refinement.specs.Engine.{relations_of, Refined, actions_to, acted, removed_by, hits_by, Idle, Turning, Fixed, Owning, Done, Stepping, Made}
use Rattle.refinement.proofs.Laws.{untrue, all_in, all-below, held-inside}
use Rattle.refinement.proofs.Actions.{acted-related, acted-blocks}

-- a transition goes into sets that agree on the states alike
pub into-same : (L : Lts) (a : ℕ) {X Y : Set} → ((q : ℕ) → q < L.states → X q ≡ Y q) → (p : ℕ) → into L a X p ≡ into L a Y p
unfolding into any_state
into-same L a e p = any-cong L.states _ _ (λ t h. ap (λ (b : Bool). L.transition p a t && b) (e t h))

-- the actions by rows, from relations that agree
actions-cong : (Rem Hits : ℕ → Set) (j : ℕ) {r s : Refined} → SameRel 256 r.related s.related → SameRel 256 r.blocks s.blocks
    → SameRel 256 (actions_to Rem Hits j r).related (actions_to Rem Hits j s).related × SameRel 256 (actions_to Rem Hits j r).blocks (actions_to Rem Hits j s).blocks
unfolding actions_to
actions-cong Rem Hits zero e d = (e, d)
actions-cong Rem Hits (suc j) e d =
    let ih = actions-cong Rem Hits j e d in
    (refined-cong 256 (λ _ _. refl) (λ _ _. refl) ih.0 ih.1, split-blocks-cong 256 (λ _ _. refl) ih.1)

less : (j : ℕ) → suc j - 1 ≡ j
less j = omega arith

module _ {t places rows all : List ℕ} {b : ℕ} {related viewed blocks shared : List ℕ} (at : Stepping t places rows all b related viewed blocks shared) where
  abbrev n : ℕ
  n = states_of t

  abbrev L : Lts
  L = table_lts t

  abbrev s : Relations
  s = relations_of n related viewed

  abbrev B : Set
  B = block s.related b

  abbrev Y : Set
  Y = s.related b

  abbrev N : Set
  N q = s.viewed b q && not (s.related b q)

  ok : Formed t
  ok = at.index.formed

  small : n ≤ 256
  small = ok.states

  low : b < 256
  low = omega (arith, at.begun.low, small)

  same-related : (p q : ℕ) → p < 256 → q < 256 → set_at related p q ≡ s.related p q
  unfolding relations_of
  same-related = sets-in 256 _ at.begun.related-is

  same-viewed : (p q : ℕ) → p < 256 → q < 256 → set_at viewed p q ≡ s.viewed p q
  unfolding relations_of
  same-viewed = sets-in 256 _ at.begun.viewed-is

  same_blocks : (p q : ℕ) → p < 256 → q < 256 → set_at blocks p q ≡ block s.related p q
  unfolding relations_of
  same_blocks = sets-in 256 _ at.begun.blocks_is

  reflexive : (g : ℕ) → g < n → T (s.related g g)
  unfolding each_action table_lts
  reflexive g h = (at.steady.during 0).loop h

  pub step-owning : Owning t blocks
  step-owning g h = same_blocks g g (omega (arith, h, small)) (omega (arith, h, small)) ∙ T_true _ ((block-iff s.related g g).1 (reflexive g h, reflexive g h))

  -- a set of all states
  within : (q : ℕ) → q < n → in_row all q ≡ true
  within q h = all_in n at.all-is q (omega (arith, h, small)) h

  module _ {members inside outside : List ℕ} {actions : ℕ} {whole : Bool} (turn : Turning rows all shared b related viewed blocks members inside outside actions whole) where
    in_members : (q : ℕ) → q < 256 → in_row members q ≡ B q
    in_members q h = set-in _ turn.members-is q h ∙ same_blocks b q low h

    in-inside : (q : ℕ) → q < 256 → in_row inside q ≡ Y q
    in-inside q h = set-in _ turn.inside_is q h ∙ same-related b q low h

    in-outside : (q : ℕ) → q < 256 → in_row outside q ≡ N q
    in-outside q h = set-in _ turn.outside-is q h ∙ ap₂ (λ (x y : Bool). x && not y) (same-viewed b q low h) (same-related b q low h)

    below : (q : ℕ) → q < L.states → q < 256
    unfolding table_lts
    below q h = omega (arith, h, small)

    -- ---- what is fixed for the actions

    either : (v y : Bool) → v ≡ true → y || (v && not y) ≡ true
    either v true e = refl
    either v false e = and-true v ∙ e

    covers : whole ≡ true → (q : ℕ) → q < n → in_row inside q || in_row outside q ≡ true
    covers e q h =
        let u : q < 256 = omega (arith, h, small) in
        ap₂ ◌||◌ (set-in _ turn.inside_is q u) (set-in _ turn.outside-is q u) ∙ either (set_at viewed b q) (set_at related b q) (turn.whole_is e q u ∙ within q h)

    -- no transition by an action goes into a set, where there is none, or none into its members
    no-into : (a : ℕ) (X : Set) → ((p q : ℕ) → p < 256 → q < n → X q ≡ true → L.transition p a q ≡ false) → (p : ℕ) → p < 256 → into L a X p ≡ false
    unfolding into any_state table_lts
    no-into a X none p h = sym (any-no n _ (λ q u. go (X q) (none p q h u)))
      where
        go : {r : Bool} (x : Bool) → (x ≡ true → r ≡ false) → r && x ≡ false
        go {r} true f = and-true r ∙ f refl
        go {r} false f = and-false r

    -- an action that the words of a set's states have not: no transition by it goes into the set
    quiet : (S : List ℕ) (j : ℕ) → j < actions_of t → bit (actions_entering rows (in_row S)) j ≡ false
        → (p q : ℕ) → p < 256 → q < n → in_row S q ≡ true → L.transition p (suc j) q ≡ false
    quiet S j h e p q hp hq m =
        let u : q < 256 = omega (arith, hq, small) in
        let none = any-off 256 (λ q. in_row S q && bit (get_or rows q 0) j) (sym (bit-word_of 64 _ j (omega (arith, h, ok.labels))) ∙ e) q u in
        let unset : bit (get_or rows q 0) j ≡ false = sym (ap (λ (b : Bool). b && bit (get_or rows q 0) j) m) ∙ none in
        any-off 256 (λ p. L.transition p (suc j) q) (sym (at.index.actions (suc j) q (omega arith) h u) ∙ ap (bit (get_or rows q 0)) (less j) ∙ unset) p hp

    -- by one with no transition into N, Rem is empty
    unused : (j : ℕ) → j < actions_of t → bit (actions_entering rows (in_row outside)) j ≡ false
        → (q : ℕ) → q < 256 → remove L (suc j) (in_row inside) (in_row outside) q ≡ false
    unfolding remove
    unused j h e q u = ap (λ (x : Bool). x && not (into L (suc j) (in_row inside) q)) (no-into (suc j) (in_row outside) (quiet outside j h e) q u)

    -- by one with no transition into Y, there is no hit, and Rem is what goes into V: it splits no block
    module _ (j : ℕ) (h : j < actions_of t) (e : bit (actions_entering rows (in_row inside)) j ≡ false) where
      inside-missed : (q : ℕ) → q < 256 → into L (suc j) (in_row members) q ≡ false
      inside-missed = no-into (suc j) (in_row members) (λ p r hp hr m.
          let u : r < 256 = omega (arith, hr, small) in
          let b : T (B r) = subst T (sym (sym (in_members r u) ∙ m)) tt in
          quiet inside j h e p r hp hr (in-inside r u ∙ T_true _ ((block-iff s.related _ r).0 b).0))

      goes-viewed : (q : ℕ) → q < 256 → into L (suc j) (in_row outside) q ≡ into L (suc j) (s.viewed b) q
      unfolding into any_state table_lts
      goes-viewed q u = any-cong n _ _ (λ r hr.
          let v : r < 256 = omega (arith, hr, small) in
          ap (λ (x : Bool). L.transition q (suc j) r && x) (in-outside r v)
          ∙ cases (L.transition q (suc j) r) (s.viewed b r) (s.related b r) (λ y. quiet inside j h e q r u hr (in-inside r v ∙ y)))
        where
          cases : (x v y : Bool) → (y ≡ true → x ≡ false) → x && (v && not y) ≡ x && v
          cases false v y f = refl
          cases true v true f = absurd (true≢false (f refl))
          cases true v false f = and-true v

      rem-viewed : (q : ℕ) → q < 256 → remove L (suc j) (in_row inside) (in_row outside) q ≡ into L (suc j) (s.viewed b) q
      unfolding remove
      rem-viewed q u =
          ap (λ (x : Bool). into L (suc j) (in_row outside) q && not x) (no-into (suc j) (in_row inside) (quiet inside j h e) q u)
          ∙ and-true (into L (suc j) (in_row outside) q) ∙ goes-viewed q u

      inside-unsplit : (g k : ℕ) → g < 256 → k < 256 → set_at blocks g k ≡ true
          → remove L (suc j) (in_row inside) (in_row outside) k ≡ remove L (suc j) (in_row inside) (in_row outside) g
      inside-unsplit g k hg hk p =
          rem-viewed k hk ∙ at.steady.spread (suc j) g k (subst T (sym (sym (same_blocks g k hg hk) ∙ p)) tt) ∙ sym (rem-viewed g hg)

    -- by one with no transition into b, which is alone in its block, there is no hit
    missed : (j : ℕ) → j < actions_of t → in_row shared b ≡ false → bit (get_or rows b 0) j ≡ false → (q : ℕ) → q < 256 → into L (suc j) (in_row members) q ≡ false
    missed j h lone e = no-into (suc j) (in_row members) (λ p r hp hr m.
        let u : r < 256 = omega (arith, hr, small) in
        let same = at.begun.parts.single b r low u lone (sym (set-in _ turn.members-is r u) ∙ m) in
        ap (L.transition p (suc j)) same ∙ any-off 256 (λ p. L.transition p (suc j) b)
        (sym (at.index.actions (suc j) b (omega arith) h low) ∙ ap (bit (get_or rows b 0)) (less j) ∙ e) p hp)

    abbrev Picked : ℕ → ℕ → Type 0
    Picked j word = bit word j ≡ false → Idle (removed_by t (in_row inside) (in_row outside) (suc j)) (hits_by t (in_row members) (suc j)) (set_at blocks)

    -- the word of actions is that of Y, of N or of b
    by_word : (C : ℕ → Type 0) → C (actions_entering rows (in_row inside)) → C (actions_entering rows (in_row outside))
        → (any_below 256 (in_row shared) ≡ false → C (get_or rows b 0)) → C actions
    by_word C c₁ c₂ c₃ = subst C (sym turn.actions-is) (go (any_below 256 (in_row shared)) whole refl)
      where
        go : (x w : Bool) → any_below 256 (in_row shared) ≡ x → C (cond x (actions_entering rows (in_row (cond w inside outside))) (get_or rows b 0))
        go true true e = c₁
        go true false e = c₂
        go false w e = c₃ e

    no_more : (j : ℕ) → actions_of t ≤ j → j < 64 → bit actions j ≡ false
    no_more j l h = by_word (λ w. bit w j ≡ false) (none inside) (none outside) (λ _. at.index.no_more j b low l h)
      where
        none : (S : List ℕ) → bit (actions_entering rows (in_row S)) j ≡ false
        none S = bit-word_of 64 _ j h ∙ sym (any-no 256 _ (λ q u. ap (λ (x : Bool). in_row S q && x) (at.index.no_more j q u l h) ∙ and-false (in_row S q)))

    idle : (j : ℕ) → j < actions_of t → Picked j actions
    idle j h = by_word (Picked j) (λ e. inr (inside-missed j h e, inside-unsplit j h e)) (λ e. inl (unused j h e))
        (λ none e. inr (
          missed j h (any-off 256 (in_row shared) none b low) e,
          λ g k hg hk p. ap (removed_by t (in_row inside) (in_row outside) (suc j)) (at.begun.parts.single g k hg hk (any-off 256 (in_row shared) none g hg) p),
        ))

    pub step-fixed : ((j : ℕ) → get_or rows j 0 < 2 ^ 64) → Fixed t places rows actions (in_row members) (in_row inside) (in_row outside) (set_at blocks) whole
    step-fixed words = record {
      index = at.index;
      small = by_word (λ w. w < 2 ^ 64) (word_of-lt 64 _) (word_of-lt 64 _) (λ _. words b);
      covers = covers;
      no_more = no_more;
      idle = idle;
    }

    -- ---- what the actions make

    rem_is : (a q : ℕ) → remove L a (in_row inside) (in_row outside) q ≡ remove L a Y N q
    unfolding remove
    rem_is a q = ap₂ (λ (x y : Bool). x && not y) (into-same L a (λ p h. in-outside p (below p h)) q) (into-same L a (λ p h. in-inside p (below p h)) q)

    hits-is : (a q : ℕ) → into L a (in_row members) q ≡ into L a B q
    hits-is a q = into-same L a (λ p h. in_members p (below p h)) q

    free : (a x : ℕ) → T (into L a B x) → T (remove L a Y N x) → ⊥
    free a = hit-free (table-formed t ok) B Y N a (λ q u. ((block-iff s.related b q).0 u).0)

    abbrev first : Refined
    first = record { related = set_at related; blocks = set_at blocks }

    abbrev ruled : Refined
    ruled = record { related = s.related; blocks = block s.related }

    by-rule : (j : ℕ) → SameRel 256 (acted (removed_by t (in_row inside) (in_row outside)) (hits_by t (in_row members)) j related blocks).related
        (actions_to (λ a. remove L a Y N) (λ a. into L a B) j ruled).related
        × SameRel 256 (acted (removed_by t (in_row inside) (in_row outside)) (hits_by t (in_row members)) j related blocks).blocks
        (actions_to (λ a. remove L a Y N) (λ a. into L a B) j ruled).blocks
    by-rule j =
        subst (λ (Rem : ℕ → Set). SameRel 256 (actions_to Rem (hits_by t (in_row members)) j first).related (actions_to (λ a. remove L a Y N) (λ a. into L a B) j ruled).related
        × SameRel 256 (actions_to Rem (hits_by t (in_row members)) j first).blocks (actions_to (λ a. remove L a Y N) (λ a. into L a B) j ruled).blocks)
        (fun_ext (λ a. fun_ext (λ q. sym (rem_is a q))))
        (subst (λ (Hits : ℕ → Set). SameRel 256 (actions_to (λ a. remove L a Y N) Hits j first).related (actions_to (λ a. remove L a Y N) (λ a. into L a B) j ruled).related
        × SameRel 256 (actions_to (λ a. remove L a Y N) Hits j first).blocks (actions_to (λ a. remove L a Y N) (λ a. into L a B) j ruled).blocks)
        (fun_ext (λ a. fun_ext (λ q. sym (hits-is a q))))
        (actions-cong (λ a. remove L a Y N) (λ a. into L a B) j same-related same_blocks))

    module _ {related' viewed' blocks' touched : List ℕ} (done : Done t (in_row members) (in_row inside) (in_row outside) related blocks related' blocks' touched)
        (view : viewed' ≡ sets_of 256 (λ p q. cond (in_row members p) (in_row inside q) (set_at viewed p q))) where
      few : L.states ≤ 256
      unfolding table_lts
      few = small

      related-next : related' ≡ sets_of 256 (step_of L b s).related
      unfolding step_of table_lts
      related-next = done.related-is ∙ sets-cong 256 _ _ (λ p q h l. (by-rule (actions_of t)).0 p q h l ∙ acted-related L few B Y N s.related at.steady.during free (actions_of t) p q)

      blocks-next : blocks' ≡ sets_of 256 (block (step_of L b s).related)
      unfolding step_of table_lts
      blocks-next = done.blocks_is ∙ sets-cong 256 _ _ (λ p q h l. (by-rule (actions_of t)).1 p q h l ∙ acted-blocks L few B Y N s.related at.steady.during free (actions_of t) p q)

      viewed-next : viewed' ≡ sets_of 256 (step_of L b s).viewed
      unfolding step_of
      viewed-next = view ∙ sets-cong 256 _ _ (λ p q h l. rw (in_members p h, in-inside q l, same-viewed p q h l))

      -- K has no pair outside the states, before and after the step
      after : (g h : ℕ) → T ((step_of L b s).related g h) → g < n
      unfolding step_of table_lts
      after g h e = (at.steady.during (actions_of t)).source e

      before : (g h : ℕ) → T (s.related g h) → g < n
      unfolding relations_of
      before g h e = (held-inside n related g h e).0

      module _ {final : List ℕ} (touch : final ≡ row_of 4 (λ q. (in_row members q || in_row touched q) && in_row all q)) where
        final-in : (g : ℕ) → g < 256 → in_row final g ≡ (in_row members g || in_row touched g) && in_row all g
        final-in g h = set-in _ touch g h

        -- a state outside what was touched was touched by no action, or is none of the table
        outs : (g : ℕ) → g < 256 → in_row final g ≡ false → ((in_row members g ≡ false) × (in_row touched g ≡ false)) ⊎ (n ≤ g)
        outs g h e = ⊎_elim
            (λ (l : g < n). inl (neither _ _ (sym (and-true _) ∙ ap (λ (x : Bool). (in_row members g || in_row touched g) && x) (sym (within g l))
            ∙ sym (final-in g h) ∙ e))) (λ (l : n ≤ g). inr l) (lt-or-ge g n)

        related-kept : (g h : ℕ) → g < 256 → h < 256 → in_row final g ≡ false → set_at related' g h ≡ set_at related g h
        related-kept g h u v e = ⊎_elim (λ o. done.untouched.related_same g h u v o.1)
            (λ (l : n ≤ g). sets-in 256 _ related-next g h u v ∙ untrue _ (λ x. absurd (omega (arith, l, after g h x))) ∙ sym (same-related g h u v ∙ untrue _ (λ x. absurd (omega (arith, l, before g h x))))) (outs g u e)

        blocks-kept : (g h : ℕ) → g < 256 → h < 256 → in_row final g ≡ false → set_at blocks' g h ≡ set_at blocks g h
        blocks-kept g h u v e = ⊎_elim (λ o. done.untouched.blocks-same g h u v o.1)
            (λ (l : n ≤ g). sets-in 256 _ blocks-next g h u v ∙ untrue _ (λ x. absurd (omega (arith, l, after g h ((block-iff (step_of L b s).related g h).0 x).0)))
            ∙ sym (same_blocks g h u v ∙ untrue _ (λ x. absurd (omega (arith, l, before g h ((block-iff s.related g h).0 x).0))))) (outs g u e)

        viewed-kept : (g h : ℕ) → g < 256 → h < 256 → in_row final g ≡ false → set_at viewed' g h ≡ set_at viewed g h
        viewed-kept g h u v e = ⊎_elim (λ o. sets-in 256 _ view g h u v ∙ ap (λ (x : Bool). cond x (in_row inside h) (set_at viewed g h)) o.0)
            (λ (l : n ≤ g). sets-in 256 _ view g h u v ∙ ap (λ (x : Bool). cond x (in_row inside h) (set_at viewed g h)) (in_members g u ∙ untrue _ (λ x. absurd (omega (arith, l, inside-block g x))))) (outs g u e)
          where
            inside-block : (g : ℕ) → T (B g) → g < n
            inside-block g x = before g b ((block-iff s.related b g).0 x).1

        loop : (g : ℕ) → g < n → T ((step_of L b s).related g g)
        unfolding step_of table_lts
        loop g l = (at.steady.during (actions_of t)).loop l

        pub step-made : Parted (set_at blocks') (in_row shared) → Made t b shared related viewed blocks related' viewed' blocks' final
        step-made parts = record {
          related-is = related-next;
          viewed-is = viewed-next;
          blocks_is = blocks-next;
          untouched = record { related_same = related-kept; blocks-same = blocks-kept };
          viewed-same = viewed-kept;
          parts = parts;
          owned = λ g u e.
              let l = all-below n at.all-is g u (and-snd (in_row members g || in_row touched g) (in_row all g) (sym (final-in g u) ∙ e)) in
              sets-in 256 _ blocks-next g g u u ∙ T_true _ ((block-iff (step_of L b s).related g g).1 (loop g l, loop g l));
        }
