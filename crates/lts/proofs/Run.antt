-- The run of steps: it begins in the invariant, ends with nothing pending, and its K is then the coarsest simulation inside the preorder.
use Prim.Native.Nat.{ℕ, zero, suc, ◌+◌, ◌*◌, ◌-◌, ◌%◌, ◌≤◌, ◌<◌}
use native.Mathlib.Nat.{le_refl, le_antisymm, not-suc-le-zero, le_of_suc-le-suc, mod-lt}
use native.Mathlib.Omega.{arith}
use mathlib.Core.Path.{◌≡◌, refl, sym, ◌∙◌, ap, subst, fun_ext}
use mathlib.Core.Logic.{◌⊎◌, inl, inr, ◌↔◌}
use mathlib.Core.Bool.{Bool, true, false, ◌&&◌, xor}
use mathlib.Core.List.{List}
use lib.Dec.{T, eqb, eqb_refl}
use lib.ListN.{length, get_or}
use Rattle.lts.specs.Bounded.{◌⇒◌, count_below, passing, lowest}
use Rattle.lts.specs.System.{Rel, Lts, WellFormed, any_state, all_actions, into, Relation, Simulation}
use Rattle.lts.specs.Refinement.{Relations, Run, block, representative, is_representative, initial, pending, step_of, chosen, step, run, coarsest, pair_count}
use Rattle.lts.proofs.Bounded.{and-iff, imp-iff, dec, test-ext, any-iff, all-iff, restrict-iff}
use Rattle.lts.proofs.Count.{sum-le, sum_lt, sum-most, sum-least, count-le, count-lt, count_most, count-least, passing-at, passing-some, lowest-passes, lowest-least}
use Rattle.lts.proofs.System.{into-to, into-from, Preorder}
use Rattle.lts.proofs.Step.{On, Inv, block-iff, step-inv, viewed-shrinks, viewed-at}

-- ---- how many pairs a relation has

pub pair-count-most : (L : Lts) (R : Rel) → pair_count L R ≤ L.states * L.states
unfolding pair_count
pair-count-most L R = sum-most L.states L.states (λ p. count_below L.states (R p)) (λ p _. count_most L.states (R p))

-- a larger relation has as many pairs or more, and more where it has one that the other lacks
pub pair-count-le : (L : Lts) (R S : Rel) → ((p q : ℕ) → T (R p q) → T (S p q)) → pair_count L R ≤ pair_count L S
unfolding pair_count
pair-count-le L R S h =
    sum-le L.states (λ p. count_below L.states (R p)) (λ p. count_below L.states (S p)) (λ p _. count-le L.states (R p) (S p) (λ q _. h p q))

pub pair-count-lt : (L : Lts) (R S : Rel) → ((p q : ℕ) → T (R p q) → T (S p q))
    → (p q : ℕ) → p < L.states → q < L.states → (T (R p q) → ⊥) → T (S p q) → pair_count L R < pair_count L S
unfolding pair_count
pair-count-lt L R S h p q l m f t =
    sum_lt L.states (λ p. count_below L.states (R p)) (λ p. count_below L.states (S p)) (λ p _. count-le L.states (R p) (S p) (λ q _. h p q)) p l
    (count-lt L.states (R p) (S p) (λ q _. h p q) q m f t)

-- a relation without the diagonal has at most n * (n - 1)
pub pair-count-off : (L : Lts) (R : Rel) → ((p : ℕ) → p < L.states → T (R p p) → ⊥) → pair_count L R ≤ L.states * (L.states - 1)
unfolding pair_count
pair-count-off L R f =
    sum-most L.states (L.states - 1) (λ p. count_below L.states (R p))
    (λ p l.
    let c = count-lt L.states (R p) (λ _. true) (λ _ _ _. tt) p l (f p l) tt in
    let d = count_most L.states (λ _. true) in
    omega (arith, c, d))

-- ---- the beginning

module _ (L : Lts) (wf : WellFormed L) (preorder : Rel) where
  -- q has a transition by each action that p has a transition by
  abbrev Able : Relation
  Able p q = (a t : ℕ) → T (L.transition p a t) → (r : ℕ) × T (L.transition q a r)

  initial-iff : (p q : ℕ) → On (initial L preorder).related p q ↔ ((p < L.states) × (q < L.states) × T (preorder p q) × Able p q)
  unfolding initial all_actions
  initial-iff p q = (to, from)
    where
      test : ℕ → Bool
      test a = into L a (λ t. true) p ⇒ into L a (λ t. true) q

      cell : On (initial L preorder).related p q ↔ ((p < L.states) × (q < L.states) × T (preorder p q && all_actions L test))
      cell = restrict-iff L.states (λ p q. preorder p q && all_actions L (λ a. into L a (λ t. true) p ⇒ into L a (λ t. true) q)) p q

      able : T (all_actions L test) → (a t : ℕ) → (1 ≤ a) × (a ≤ L.actions) → T (L.transition p a t) → (r : ℕ) × T (L.transition q a r)
      able e zero t l m = absurd (not-suc-le-zero l.0)
      able e (suc b) t l m =
          let i = into-to L (suc b) (λ t. true) q ((imp-iff (into L (suc b) (λ t. true) p) (into L (suc b) (λ t. true) q)).0 ((all-iff L.actions (λ a. test (suc a))).0 e b l.1)
          (into-from wf (suc b) (λ t. true) p (t, m, tt))) in
          (i.0, i.1)

      to : On (initial L preorder).related p q → (p < L.states) × (q < L.states) × T (preorder p q) × Able p q
      to t =
          let c = cell.0 t in
          let e = (and-iff (preorder p q) (all_actions L test)).0 c.2 in
          (c.0, c.1, e.0, λ a t m. able e.1 a t (wf.action p a t m) m)

      from : (p < L.states) × (q < L.states) × T (preorder p q) × Able p q → On (initial L preorder).related p q
      from s = cell.1 (
        s.0,
        s.1,
        (and-iff (preorder p q) (all_actions L test)).1 (
          s.2,
          (all-iff L.actions (λ a. test (suc a))).1
              (λ b _.
              (imp-iff (into L (suc b) (λ t. true) p) (into L (suc b) (λ t. true) q)).1
              (λ i.
              let m = into-to L (suc b) (λ t. true) p i in
              let r = s.3 (suc b) m.0 m.1 in
              into-from wf (suc b) (λ t. true) q (r.0, r.1, tt))),
        ),
      )

  pub initial-inv : Preorder L preorder → Inv L preorder (initial L preorder)
  unfolding initial
  initial-inv pre = record {
    blocks = record {
      source = λ {g} {h} k. ((initial-iff g h).0 k).0;
      target = λ {g} {h} k. ((initial-iff g h).0 k).1;
      loop = λ {g} p. (initial-iff g g).1 (p, p, pre.loop g p, λ a t m. (t, m));
      shift_l = λ {g} {g'} {h} k a b. trans g' g h b k;
      shift_r = λ {g} {h} {h'} k a b. trans g h h' k a;
    };
    inside = λ g h k. ((initial-iff g h).0 k).2;
    stable = λ S sim g h i k q. trans g h i k ((initial-iff h i).1 (
      (sim.states q).0,
      (sim.states q).1,
      sim.inside q,
      λ a t m. let r = sim.answer a t q m in (r.0, r.1),
    ));
    seen = λ g h k. let c = (initial-iff g h).0 k in (all g h).1 (c.0, c.1, tt);
    shared = λ g g' h k k' v. (all g' h).1 (((initial-iff g g').0 k).1, ((all g h).0 v).1, tt);
    spread = λ c g x y k k' i.
        let r = ((initial-iff x y).0 k).3 c i.0 i.1 in
        (r.0, r.1, (all g r.0).1 (((all g i.0).0 i.2).0, wf.target y c r.0 r.1, tt));
    answer = λ c g x y m k.
        let r = ((initial-iff x y).0 k).3 c g m in
        (r.0, r.1, (all g r.0).1 (wf.target x c g m, wf.target y c r.0 r.1, tt));
  }
    where
      all : (g h : ℕ) → On (initial L preorder).viewed g h ↔ ((g < L.states) × (h < L.states) × T true)
      all = restrict-iff L.states (λ p q. true)

      trans : (g h i : ℕ) → On (initial L preorder).related g h → On (initial L preorder).related h i → On (initial L preorder).related g i
      trans g h i k l =
          let c = (initial-iff g h).0 k in
          let d = (initial-iff h i).0 l in
          (initial-iff g i).1 (
            c.0,
            d.1,
            pre.chain g h i c.0 c.1 d.1 c.2 d.2,
            λ a t m. let r = c.3 a t m in d.3 a r.0 r.1,
          )

-- ---- nothing pending

-- K is the coarsest simulation inside the preorder, and a preorder
pub record Coarsest (L : Lts) (preorder K : Rel) : Type 1 where
  pub simulates : Simulation L preorder (On K)
  pub loop : (g : ℕ) → g < L.states → On K g g
  pub chain : (g h i : ℕ) → On K g h → On K h i → On K g i
  pub greatest : (S : Relation) → Simulation L preorder S → (p q : ℕ) → S p q → On K p q

differ : (v k : Bool) → T v → (T k → ⊥) → T (xor v k)
unfolding xor
differ true true t f = f tt
differ true false t f = tt
differ false k t f = absurd t

differs : (v k : Bool) → (T k → T v) → T (xor v k) → T v × (T k → ⊥)
unfolding xor
differs true true h t = absurd t
differs true false h t = (tt, λ k. k)
differs false true h t = absurd (h tt)
differs false false h t = absurd t

module _ (L : Lts) (wf : WellFormed L) (preorder : Rel) (s : Relations) (inv : Inv L preorder s) where
  abbrev K : Rel
  K = s.related

  -- each state's block has its representative
  represented : (g : ℕ) → g < L.states → (r : ℕ) × (r < L.states) × On K g r × On K r g × T (is_representative L K r)
  unfolding is_representative representative
  represented g l = (r, low.0, in_g.0, in_g.1, subst (λ (x : ℕ). T (eqb x r)) (sym same) (eqb_refl r))
    where
      loop : (h : ℕ) → h < L.states → T (block K h h)
      loop h m = (block-iff K h h).1 (inv.blocks.loop m, inv.blocks.loop m)

      r : ℕ
      r = lowest L.states (block K g)

      low : (r < L.states) × T (block K g r)
      low = lowest-passes L.states (block K g) g l (loop g l)

      in_g : On K g r × On K r g
      in_g = (block-iff K g r).0 low.1

      r' : ℕ
      r' = lowest L.states (block K r)

      in-r : On K r r' × On K r' r
      in-r = (block-iff K r r').0 (lowest-passes L.states (block K r) r low.0 (loop r low.0)).1

      same : r' ≡ r
      same =
          le_antisymm (lowest-least L.states (block K r) r (loop r low.0))
          (lowest-least L.states (block K g) r' ((block-iff K g r').1 (inv.blocks.shift_r in_g.0 in-r.0 in-r.1, inv.blocks.shift_l in_g.1 in-r.0 in-r.1)))

  settled : (T (any_state L (pending L s)) → ⊥) → (g h : ℕ) → g < L.states → h < L.states → On s.viewed g h → On K g h
  unfolding any_state pending
  settled none g h l m v = go (dec (K g h))
    where
      go : T (K g h) ⊎ (T (K g h) → ⊥) → T (K g h)
      go (inl k) = k
      go (inr f) =
          let r = represented g l in
          let far = differ (s.viewed r.0 h) (K r.0 h) (inv.shared g r.0 h r.2 r.3 v) (λ k. f (inv.blocks.shift_l k r.3 r.2)) in
          absurd
          (none
          ((any-iff L.states (pending L s)).1 (
            r.0,
            r.1,
            (and-iff (is_representative L K r.0) (any_state L (λ q. xor (s.viewed r.0 q) (K r.0 q)))).1 (
              r.4,
              (any-iff L.states (λ q. xor (s.viewed r.0 q) (K r.0 q))).1 (h, m, far),
            ),
          )))

  pub settled-coarsest : (T (any_state L (pending L s)) → ⊥) → Coarsest L preorder K
  settled-coarsest none = record {
    simulates = sim;
    loop = λ g l. inv.blocks.loop l;
    chain = λ g h i k l. inv.stable (On K) sim g h i k l;
    greatest = λ S 𝓢 p q t. inv.stable S 𝓢 p p q (inv.blocks.loop (𝓢.states t).0) t;
  }
    where
      sim : Simulation L preorder (On K)
      sim = record {
        states = λ k. (inv.blocks.source k, inv.blocks.target k);
        inside = λ {p} {q} k. inv.inside p q k;
        answer = λ {p} {q} a t k m.
            let r = inv.answer a t p q m k in
            (r.0, r.1, settled none t r.0 (wf.target p a t m) (wf.target q a r.0 r.1) r.2);
      }

  -- ---- one step makes V smaller

  chosen-pending : (e : ℕ) → T (any_state L (pending L s)) → (chosen L e s < L.states) × T (pending L s (chosen L e s))
  unfolding chosen any_state
  chosen-pending e t = passing-at L.states (pending L s) (e % length (passing L.states (pending L s))) (mod-lt e (passing-some L.states (pending L s) t))

  step_less : (e : ℕ) → T (any_state L (pending L s)) → pair_count L (step L e s).viewed < pair_count L s.viewed
  unfolding step pending any_state
  step_less e t =
      pair-count-lt L V' s.viewed (λ g h. viewed-shrinks L wf preorder s inv p g h) p q.0 c.0 q.1
      (λ v. d.1 (viewed-at L wf preorder s inv p q.0 c.0 v)) d.0
    where
      p : ℕ
      p = chosen L e s

      V' : Rel
      V' = (step_of L p s).viewed

      c : (p < L.states) × T (pending L s p)
      c = chosen-pending e t

      q : (q : ℕ) × (q < L.states) × T (xor (s.viewed p q) (K p q))
      q = (any-iff L.states (λ q. xor (s.viewed p q) (K p q))).0 ((and-iff (is_representative L K p) (any_state L (λ q. xor (s.viewed p q) (K p q)))).0 c.1).1

      d : T (s.viewed p q.0) × (T (K p q.0) → ⊥)
      d = differs (s.viewed p q.0) (K p q.0) (inv.seen p q.0) q.2

-- ---- the run

pub run-stop : (L : Lts) (es : List ℕ) (fuel k : ℕ) (s : Relations) → (T (any_state L (pending L s)) → ⊥) → run L es fuel k s ≡ record { final = s; steps = k }
unfolding run
run-stop L es zero k s f = refl
run-stop L es (suc fuel) k s f = let e = test-ext (any_state L (pending L s)) false f (λ t. absurd t) in rw (e, run)

pub run_more : (L : Lts) (es : List ℕ) (fuel k : ℕ) (s : Relations) → T (any_state L (pending L s)) → run L es (suc fuel) k s ≡ run L es fuel (suc k) (step L (get_or es k 0) s)
unfolding run
run_more L es fuel k s t = let e = test-ext (any_state L (pending L s)) true (λ _. tt) (λ _. t) in rw (e, run)

-- what is known of the run r from s
record Ends (L : Lts) (preorder : Rel) (fuel k : ℕ) (s : Relations) (r : Run) : Type 1 where
  inv : Inv L preorder r.final
  count : r.steps + pair_count L r.final.viewed ≤ k + pair_count L s.viewed
  none : pair_count L s.viewed ≤ fuel → T (any_state L (pending L r.final)) → ⊥

run_ends : (L : Lts) (wf : WellFormed L) (preorder : Rel) (es : List ℕ) (fuel k : ℕ) (s : Relations) → Inv L preorder s → Ends L preorder fuel k s (run L es fuel k s)
unfolding run step
run_ends L wf preorder es zero k s i = record {
  inv = i;
  count = le_refl (k + pair_count L s.viewed);
  none = λ l t. let d = step_less L wf preorder s i zero t in omega (arith, l, d);
}
run_ends L wf preorder es (suc fuel) k s i = go (dec (any_state L (pending L s))) (run_ends L wf preorder es fuel (suc k) s' (step-inv L wf preorder s i (chosen L (get_or es k 0) s)))
  where
    s' : Relations
    s' = step L (get_or es k 0) s

    go : T (any_state L (pending L s)) ⊎ (T (any_state L (pending L s)) → ⊥) → Ends L preorder fuel (suc k) s' (run L es fuel (suc k) s') → Ends L preorder (suc fuel) k s (run L es (suc fuel) k s)
    go (inr f) ih = subst (Ends L preorder (suc fuel) k s) (sym (run-stop L es (suc fuel) k s f)) (record {
      inv = i;
      count = le_refl (k + pair_count L s.viewed);
      none = λ _ t. f t;
    })
    go (inl t) ih =
        let d = step_less L wf preorder s i (get_or es k 0) t in
        subst (Ends L preorder (suc fuel) k s) (sym (run_more L es fuel k s t)) (record {
          inv = ih.inv;
          count = let c = ih.count in omega (arith, c, d);
          none = λ l. ih.none (omega (arith, l, d));
        })

-- enough fuel is enough: with more of it the run is the same
run-fuel : (L : Lts) (wf : WellFormed L) (preorder : Rel) (es : List ℕ) (fuel more k : ℕ) (s : Relations) → Inv L preorder s → pair_count L s.viewed ≤ fuel → fuel ≤ more
    → run L es more k s ≡ run L es fuel k s
unfolding step
run-fuel L wf preorder es zero more k s i l m = run-stop L es more k s none ∙ sym (run-stop L es zero k s none)
  where
    none : T (any_state L (pending L s)) → ⊥
    none t = let d = step_less L wf preorder s i zero t in omega (arith, l, d)
run-fuel L wf preorder es (suc fuel) zero k s i l m = absurd (not-suc-le-zero m)
run-fuel L wf preorder es (suc fuel) (suc more) k s i l m =
    go (dec (any_state L (pending L s))) (λ d. run-fuel L wf preorder es fuel more (suc k) (step L (get_or es k 0) s) (next (get_or es k 0)) (omega (arith, l, d)) (le_of_suc-le-suc m))
  where
    next : (e : ℕ) → Inv L preorder (step L e s)
    next e = step-inv L wf preorder s i (chosen L e s)

    go : T (any_state L (pending L s)) ⊎ (T (any_state L (pending L s)) → ⊥)
        → (pair_count L (step L (get_or es k 0) s).viewed < pair_count L s.viewed → run L es more (suc k) (step L (get_or es k 0) s) ≡ run L es fuel (suc k) (step L (get_or es k 0) s))
        → run L es (suc more) k s ≡ run L es (suc fuel) k s
    go (inr f) ih = run-stop L es (suc more) k s f ∙ sym (run-stop L es (suc fuel) k s f)
    go (inl t) ih = run_more L es more k s t ∙ ih (step_less L wf preorder s i (get_or es k 0) t) ∙ sym (run_more L es fuel k s t)

-- ---- the call `coarsest`

module _ (L : Lts) (wf : WellFormed L) (preorder : Rel) (pre : Preorder L preorder) (es : List ℕ) where
  ends : Ends L preorder (L.states * L.states) 0 (initial L preorder) (coarsest L preorder es)
  unfolding coarsest
  ends = run_ends L wf preorder es (L.states * L.states) 0 (initial L preorder) (initial-inv L wf preorder pre)

  -- the run ends with nothing pending
  pub coarsest-settled : T (any_state L (pending L (coarsest L preorder es).final)) → ⊥
  coarsest-settled = ends.none (pair-count-most L (initial L preorder).viewed)

  -- and its K is the coarsest simulation
  pub coarsest-is : Coarsest L preorder (coarsest L preorder es).final.related
  coarsest-is = settled-coarsest L wf preorder (coarsest L preorder es).final ends.inv coarsest-settled

  -- it makes at most n * n - n steps
  pub coarsest-steps : (coarsest L preorder es).steps + L.states ≤ L.states * L.states
  unfolding pair_count
  coarsest-steps =
      let least = sum-least L.states (λ p. count_below L.states ((coarsest L preorder es).final.viewed p)) (λ p l. count-least L.states ((coarsest L preorder es).final.viewed p) p l (ends.inv.seen p p (ends.inv.blocks.loop l))) in
      let most = pair-count-most L (initial L preorder).viewed in
      let c = ends.count in
      omega (arith, least, most, c)

  -- and n * n steps are always enough
  pub coarsest-fuel : (more : ℕ) → L.states * L.states ≤ more → run L es more 0 (initial L preorder) ≡ coarsest L preorder es
  unfolding coarsest
  coarsest-fuel more l =
      run-fuel L wf preorder es (L.states * L.states) more 0 (initial L preorder) (initial-inv L wf preorder pre) (pair-count-most L (initial L preorder).viewed) l

-- there is one coarsest simulation
pub coarsest-unique : (L : Lts) (preorder K M : Rel) → Coarsest L preorder K → Coarsest L preorder M → K ≡ M
coarsest-unique L preorder K M 𝓚 𝓛 =
    fun_ext (λ p. fun_ext (λ q. test-ext (K p q) (M p q) (𝓛.greatest (On K) 𝓚.simulates p q) (𝓚.greatest (On M) 𝓛.simulates p q)))

-- so K does not depend on the schedule
pub same-for-all-schedules : (L : Lts) (wf : WellFormed L) (preorder : Rel) → Preorder L preorder → (es fs : List ℕ) → (coarsest L preorder es).final.related ≡ (coarsest L preorder fs).final.related
same-for-all-schedules L wf preorder pre es fs =
    coarsest-unique L preorder (coarsest L preorder es).final.related (coarsest L preorder fs).final.related (coarsest-is L wf preorder pre es) (coarsest-is L wf preorder pre fs)

-- ---- the loop of a program

-- after k steps, each made while something was pending, the relations are s
pub data Reached (L : Lts) (preorder : Rel) (es : List ℕ) : ℕ → Relations → Type 0 where
  begin : Reached L preorder es 0 (initial L preorder)
  next : {k : ℕ} {s : Relations} → Reached L preorder es k s → T (any_state L (pending L s)) → Reached L preorder es (suc k) (step L (get_or es k 0) s)

module _ (L : Lts) (wf : WellFormed L) (preorder : Rel) (pre : Preorder L preorder) (es : List ℕ) where
  record At (k : ℕ) (s : Relations) : Type 1 where
    inv : Inv L preorder s
    room : k + pair_count L s.viewed ≤ L.states * L.states
    same : (fuel : ℕ) → k + fuel ≡ L.states * L.states → run L es fuel k s ≡ coarsest L preorder es

  reached-at : (k : ℕ) (s : Relations) → Reached L preorder es k s → At k s
  unfolding coarsest step
  reached-at zero s begin = record {
    inv = initial-inv L wf preorder pre;
    room = let m = pair-count-most L (initial L preorder).viewed in omega (arith, m);
    same = λ fuel e. let d : fuel ≡ L.states * L.states = omega (arith, e) in ap (λ (f : ℕ). run L es f 0 (initial L preorder)) d;
  }
  reached-at (suc k) s (next {s = s₀} r t) =
      let a = reached-at k s₀ r in
      let d = step_less L wf preorder s₀ a.inv (get_or es k 0) t in
      record {
        inv = step-inv L wf preorder s₀ a.inv (chosen L (get_or es k 0) s₀);
        room = let l = a.room in omega (arith, l, d);
        same = λ fuel e. sym (run_more L es fuel k s₀ t) ∙ a.same (suc fuel) (omega (arith, e));
      }

  pub reached-inv : (k : ℕ) (s : Relations) → Reached L preorder es k s → Inv L preorder s
  reached-inv k s r = (reached-at k s r).inv

  -- while something is pending, fewer than n * n steps were made
  pub reached-below : (k : ℕ) (s : Relations) → Reached L preorder es k s → T (any_state L (pending L s)) → k < L.states * L.states
  reached-below k s r t =
      let a = reached-at k s r in
      let d = step_less L wf preorder s a.inv zero t in
      let l = a.room in
      omega (arith, l, d)

  -- where nothing is, the run is at its end
  pub reached-end : (k : ℕ) (s : Relations) → Reached L preorder es k s → (T (any_state L (pending L s)) → ⊥) → coarsest L preorder es ≡ record { final = s; steps = k }
  reached-end k s r f =
      let a = reached-at k s r in
      let fuel = L.states * L.states - k in
      let l = a.room in
      sym (a.same fuel (omega (arith, l))) ∙ run-stop L es fuel k s f
