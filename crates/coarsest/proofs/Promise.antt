-- Demand 3's clauses about what coarsest answers and leaves in its buffers: they follow from the call's equations.
use Prim.Native.Nat.{ℕ, ◌<◌}
use native.Mathlib.Omega.{arith}
use mathlib.Core.Path.{◌≡◌, refl, sym, ap, subst, fun_ext, ◌∙◌}
use mathlib.Core.List.{List, [], ◌∷◌}
use lib.Dec.{T}
use lib.ListN.{length, get_or}
use Rattle.lts.specs.Bounded.{lowest, restrict}
use Rattle.lts.specs.System.{Rel, Lts, WellFormed}
use Rattle.lts.specs.Refinement.{block, pair_count, block_count, representative, representatives as representatives_of, coarsest}
use Rattle.lts.specs.declared.Refusal.{Refusal}
use Rattle.lts.specs.Rule.{Nothing, First, broken, Reply, refused, given}
use Rattle.lts.proofs.Bounded.{test-ext, not_iff, restrict-iff}
use Rattle.lts.proofs.System.{Preorder, preorder-iff}
use Rattle.lts.proofs.Step.{block-iff}
use Rattle.lts.proofs.Count.{lowest-passes, lowest-least}
use Rattle.lts.proofs.Run.{Coarsest, coarsest-is, same-for-all-schedules}
use Rattle.lts.proofs.Demand.{is-coarsest, independent}
use Rattle.lts.proofs.Rule.{both-kept, when-broken, when-kept}
use Rattle.encoding.specs.Records.{header_of}
use Rattle.inputs.specs.Inputs.{input_rules, Ready}
use Rattle.inputs.proofs.Laws.{kept-ready}
use Rattle.encoding.specs.Denotation.{lts_of}
use Rattle.encoding.proofs.Reader.{reads}
use Rattle.encoding.proofs.Laws.{denoted}
use Rattle.relation.specs.Matrix.{relation_of, matrix_of}
use Rattle.lts.proofs.Below.{length-list_below, get_or-list_below}
use Rattle.relation.proofs.Matrices.{relation-of, formed-of}
use Rattle.relation.proofs.Checks.{checked-reflexive, checked-transitive}
use Rattle.coarsest.specs.Call.{CoarsestOutcome, coarsest_rules, refined, coarsest_call, Found, grid_relation, CoarsestPromise}
use Rattle.coarsest.proofs.Laws.{fit-rules, refining}

-- a relation on states is read back from its grid
pub read_back : (n : ℕ) (K : Rel) → ((p q : ℕ) → T (K p q) → (p < n) × (q < n)) → {grid : List ℕ} → grid ≡ matrix_of n K
    → restrict n (relation_of n grid) ≡ K
read_back n K inside {grid} e = fun_ext (λ p. fun_ext (λ q.
    let there = restrict-iff n (relation_of n grid) p q in
    test-ext (restrict n (relation_of n grid) p q) (K p q)
    (λ t. let r = there.0 t in subst T (relation-of n K e p q r.0 r.1) r.2)
    (λ t. let l = inside p q t in there.1 (l.0, l.1, subst T (sym (relation-of n K e p q l.0 l.1)) t))))

-- ---- the run's relation, counts and representatives are what is to be found

module _ (L : Lts) (wf : WellFormed L) (start : Rel) (pre : Preorder L start) (schedule : List ℕ) where
  abbrev K : Rel
  K = (coarsest L start schedule).final.related

  pub is : Coarsest L start K
  is = coarsest-is L wf start pre schedule

  name : {representatives : List ℕ} → representatives ≡ representatives_of L K → (p : ℕ) → p < L.states → get_or representatives p 0 ≡ lowest L.states (block K p)
  unfolding representatives_of representative
  name e p l = ap (λ (x : List ℕ). get_or x p 0) e ∙ get_or-list_below 0 L.states (representative L K) p l

  low : (p : ℕ) → p < L.states → T (block K p (lowest L.states (block K p)))
  low p l = let k = is.loop p l in (lowest-passes L.states (block K p) p l ((block-iff K p p).1 (k, k))).1

  pub finds : {reply : Reply} {representatives : List ℕ} → reply ≡ given ((coarsest L start schedule).steps ∷ pair_count L K ∷ block_count L K ∷ [])
      → representatives ≡ representatives_of L K → Found L start schedule reply K representatives
  unfolding representatives_of
  finds a e = record {
    replied = a;
    bound = (independent L wf start pre schedule).bound;
    relation = is-coarsest L wf start K is;
    long = ap (λ (x : List ℕ). length x) e ∙ length-list_below L.states (representative L K);
    member = λ p l. subst (λ (x : ℕ). T (block K p x)) (sym (name e p l)) (low p l);
    lowest = λ p q l m. (not_iff (block K p q)).1 (λ t. omega (arith, lowest-least L.states (block K p) q t, name e p l, m));
  }

-- ---- the promise

module _ (s start schedule grid₀ representatives₀ : List ℕ) (reply : Reply) (grid representatives : List ℕ)
    (outcome-is : coarsest_call s start schedule grid₀ representatives₀ ≡ record { reply = reply; grid = grid; representatives = representatives }) where
  abbrev n : ℕ
  n = (header_of s).states

  abbrev L : Lts
  L = lts_of s

  abbrev W : Rel
  W = relation_of n start

  abbrev outcome : CoarsestOutcome
  outcome = record { reply = reply; grid = grid; representatives = representatives }

  stopped : {r : Refusal} → broken (coarsest_rules s start grid₀ representatives₀) ≡ First r
      → outcome ≡ record { reply = refused r; grid = grid₀; representatives = representatives₀ }
  unfolding coarsest_call
  stopped e = when-broken (coarsest_rules s start grid₀ representatives₀) _ _ outcome-is e

  module _ (kept : broken (coarsest_rules s start grid₀ representatives₀) ≡ Nothing) where
    read : broken (input_rules s start) ≡ Nothing
    unfolding coarsest_rules
    read = (both-kept _ _ kept).0

    ready : Ready s (header_of s) start
    ready = kept-ready s start refl read

    formed : WellFormed L
    formed = (denoted s (header_of s) (reads s (header_of s) ready.readable)).formed

    states : L.states ≡ n
    unfolding lts_of
    states = refl

    pre : Preorder L W
    pre = (preorder-iff L W).0 (checked-reflexive n start ready.checked L states, checked-transitive n start ready.checked L states)

    abbrev related : List ℕ → Rel
    related es = (coarsest L W es).final.related

    f : outcome ≡ refined L W schedule
    unfolding coarsest_call
    f = when-kept (coarsest_rules s start grid₀ representatives₀) _ _ outcome-is kept

    grid-of : grid ≡ matrix_of n (related schedule)
    unfolding refined lts_of
    grid-of = ap (λ (o : CoarsestOutcome). o.grid) f

    representatives-of : representatives ≡ representatives_of L (related schedule)
    unfolding refined
    representatives-of = ap (λ (o : CoarsestOutcome). o.representatives) f

    replied : reply ≡ given ((coarsest L W schedule).steps ∷ pair_count L (related schedule) ∷ block_count L (related schedule) ∷ [])
    unfolding refined
    replied = ap (λ (o : CoarsestOutcome). o.reply) f

    -- the relation that came back
    back : grid_relation s grid ≡ related schedule
    back = read_back n (related schedule)
        (λ p q t. subst (λ (k : ℕ). (p < k) × (q < k)) states ((is L formed W pre schedule).simulates.states t)) grid-of

    pub found : Found L W schedule reply (grid_relation s grid) representatives
    found = subst (λ (K : Rel). Found L W schedule reply K representatives) (sym back) (finds L formed W pre schedule replied representatives-of)

    -- another schedule
    other-is : (other : List ℕ) → refined L W other ≡ record {
      reply = given ((coarsest L W other).steps ∷ pair_count L (grid_relation s grid) ∷ block_count L (grid_relation s grid) ∷ []);
      grid = grid;
      representatives = representatives;
    }
    unfolding refined
    other-is other =
        rw (back, same-for-all-schedules L formed W pre other schedule, grid-of ∙ ap (λ (x : ℕ). matrix_of x (related schedule)) (sym states), representatives-of)

    same : (other g r : List ℕ) → length g ≡ length grid → length r ≡ length representatives → coarsest_call s start other g r ≡ record {
      reply = given ((coarsest L W other).steps ∷ pair_count L (grid_relation s grid) ∷ block_count L (grid_relation s grid) ∷ []);
      grid = grid;
      representatives = representatives;
    }
    same other g r a b =
        refining s start other g r n refl
        (fit-rules s start g r read (a ∙ (formed-of n (related schedule) grid-of).long) (b ∙ found.long ∙ states)) ∙ other-is other

  pub promised : CoarsestPromise s start schedule grid₀ representatives₀ reply grid representatives
  promised = record {
    refuses = λ r e. (
      ap (λ (o : CoarsestOutcome). o.reply) (stopped e),
      ap (λ (o : CoarsestOutcome). o.grid) (stopped e),
      ap (λ (o : CoarsestOutcome). o.representatives) (stopped e),
    );
    matrix = λ e. formed-of n (related e schedule) (grid-of e);
    answers = found;
    same = same;
  }
