-- What is promised of compare's reply, and of its ready form's, follows from the call's equation.
use Prim.Native.Nat.{ℕ, ◌<◌}
use native.Mathlib.Omega.{arith}
use mathlib.Core.Path.{◌≡◌, sym, ap, ◌∙◌}
use mathlib.Core.Logic.{◌↔◌, ⊎_elim}
use mathlib.Core.Bool.{Bool, true, false, cond}
use mathlib.Core.List.{List, [], ◌∷◌}
use lib.Dec.{T}
use lib.ListN.{get_or}
use Rattle.lts.specs.System.{Rel, Lts, WellFormed, reflexive, transitive, is_simulation, within, termination_preorder}
use Rattle.lts.specs.Union.{comparison, simulated}
use Rattle.lts.specs.Ready.{ready_preorder}
use Rattle.lts.specs.Labels.{joined_labels, JoinedByLabel}
use Rattle.lts.specs.Demand.{Demand3}
use Rattle.lts.specs.Rule.{Nothing, broken, Reply, refused, given}
use Rattle.lts.proofs.Bounded.{not_iff, dec}
use Rattle.lts.proofs.Below.{T_true}
use Rattle.lts.proofs.Comparison.{termination-tests}
use Rattle.lts.proofs.Ready.{ready-tests, ready-simulation-iff, ready-simulated}
use Rattle.lts.proofs.Labels.{joined-formed, joined-by-label}
use Rattle.lts.proofs.Demand.{demand3}
use Rattle.lts.proofs.Rule.{passes, finding, numbered, when-broken, when-kept, decided}
use Rattle.encoding.specs.Records.{header_of}
use Rattle.encoding.specs.Labels.{labels_of}
use Rattle.encoding.specs.Denotation.{lts_of}
use Rattle.encoding.specs.Read.{Denoted}
use Rattle.encoding.proofs.Reader.{reads}
use Rattle.encoding.proofs.Laws.{denoted}
use Rattle.inputs.specs.Both.{matched_lts, joined_lts, both_rules}
use Rattle.inputs.proofs.Joined.{both-joinable}
use Rattle.comparison.specs.Call.{compare_call, start_run, Relates, ReadyRelates, ComparePromise, CompareReadyPromise}

module _ (first second : List ℕ) where
  abbrev U : Lts
  U = joined_lts first second

  module _ (kept : broken (both_rules first second) ≡ Nothing) where
    pub one : Denoted first (header_of first)
    one = denoted first _ (reads first _ (both-joinable first second kept).one)

    pub two : Denoted second (header_of second)
    two = denoted second _ (reads second _ (both-joinable first second kept).two)

    pub formed : WellFormed U
    formed = joined-formed (labels_of first) (labels_of second) (lts_of first) (lts_of second) one.formed two.formed one.labels two.labels

    pub joined-named : JoinedByLabel (labels_of first) (lts_of first) (labels_of second) (lts_of second) (joined_labels (labels_of first) (labels_of second)) U
    joined-named = joined-by-label (labels_of first) (labels_of second) (lts_of first) (lts_of second) one.formed two.formed one.labels two.labels

    states : (0 < U.states) × ((lts_of first).states < U.states)
    states =
        let n = joined-named.states in
        (omega (arith, n, one.states, one.bounds.state), omega (arith, n, two.states, two.bounds.state))

-- the start of each well-formed flow, and what relates two states of it inside that start
pub record Compares (start : Lts → Rel) (Relating : Lts → ℕ → Rel → Type 0) : Type 0 where
  pub tests : (U : Lts) → WellFormed U → T (reflexive U (start U)) × T (transitive U (start U))
  pub relating : (U : Lts) → WellFormed U → (q : ℕ) (S : Rel) → (T (is_simulation U S) × T (within U S (start U)) × T (S 0 q)) ↔ Relating U q S

pub end-compares : Compares termination_preorder Relates
end-compares = record {
  tests = λ U _. termination-tests U;
  relating = λ U _ q S. (λ s. record { simulation = s.0; inside = s.1; initial = s.2 }, λ s. (s.simulation, s.inside, s.initial));
}

pub ready-compares : Compares ready_preorder ReadyRelates
ready-compares = record {
  tests = ready-tests;
  relating = λ U formed q S.
      let i = ready-simulation-iff U formed S in
      (λ s. record { ready = i.0 (s.0, s.1); initial = s.2 }, λ s. let r = i.1 s.ready in (r.0, r.1, s.initial));
}

module _ {start : Lts → Rel} {Relating : Lts → ℕ → Rel → Type 0} (by : Compares start Relating) (first second : List ℕ) where
  module _ (kept : broken (both_rules first second) ≡ Nothing) where
    -- demand 3 about the joined flow
    all : Demand3 (U first second) (start (U first second)) []
    all = let J = U first second in let tests = by.tests J (formed first second kept) in demand3 J (formed first second kept) (start J) tests.0 tests.1 []

    -- the pair of the two states 0 is kept exactly if some simulation relates them
    relates-iff : T (simulated start (lts_of first) (matched_lts first second)) ↔ ((S : Rel) × Relating (U first second) (lts_of first).states S)
    unfolding simulated comparison
    relates-iff =
        let J = U first second in
        let q = (lts_of first).states in
        let i = by.relating J (formed first second kept) q in
        let yes = simulated start (lts_of first) (matched_lts first second) in
        let states = states first second kept in (
          λ t. ((start_run start J).final.related, (i (start_run start J).final.related).0 (all.relation.simulation, all.relation.inside, t)),
          λ s. ⊎_elim (λ t. t) (λ f. let r = (i s.0).1 s.1 in
              absurd ((all.relation.lacks 0 q states.0 states.1).0 ((not_iff yes).1 f) s.0 r.0 r.1 r.2)) (dec yes),
        )

  pub promised : {reply : Reply} → compare_call start first second ≡ reply → ComparePromise start Relating first second reply
  unfolding compare_call comparison
  promised is = record {
    refuses = λ r e. when-broken (both_rules first second) _ _ is e;
    joined = joined-named first second;
    answers = λ e. decided (simulated start (lts_of first) (matched_lts first second)) _ (relates-iff e) (when-kept (both_rules first second) _ _ is e);
    bound = λ e. (all e).independent.bound;
  }

-- ## The ready form
-- the yes that compare gives
pub yes-is : (start : Lts → Rel) (first second : List ℕ) {yes turns : ℕ} → broken (both_rules first second) ≡ Nothing
    → compare_call start first second ≡ given (yes ∷ turns ∷ []) → yes ≡ cond (simulated start (lts_of first) (matched_lts first second)) 1 0
unfolding compare_call
yes-is start first second kept e =
    ap (λ (r : Reply). get_or r.values 0 0) (sym e ∙ passes (both_rules first second) refused _ kept)

module _ (first second : List ℕ) where
  abbrev L : Lts
  L = lts_of first

  abbrev M : Lts
  M = matched_lts first second

  yes_true : (b : Bool) → ◌≡◌ {A = ℕ} 1 (cond b 1 0) → T b
  yes_true true e = tt
  yes_true false e = omega (arith, e)

  older-yes : broken (both_rules first second) ≡ Nothing → {turns : ℕ} → compare_call ready_preorder first second ≡ given (1 ∷ turns ∷ [])
      → (others : ℕ) × (compare_call termination_preorder first second ≡ given (1 ∷ others ∷ []))
  unfolding compare_call
  older-yes kept e =
      let yes = ready-simulated L M (formed first second kept) (yes_true (simulated ready_preorder L M) (yes-is ready_preorder first second kept e)) in
      let turns = (comparison termination_preorder L M).steps in (
        turns,
        passes (both_rules first second) refused _ kept
            ∙ ap (λ (b : Bool). given (cond b 1 0 ∷ turns ∷ [])) (T_true (simulated termination_preorder L M) yes),
      )

  pub ready-promised : {reply : Reply} → compare_call ready_preorder first second ≡ reply → CompareReadyPromise first second reply
  ready-promised {reply} is =
      let p = promised ready-compares first second is in
      record {
        compared = p;
        older = λ turns e. ⊎_elim
            (λ kept. older-yes kept (is ∙ e))
            (λ q. absurd (numbered q.0 (ap (λ (x : Reply). x.refusal) (sym e ∙ p.refuses q.0 q.1))))
            (finding (both_rules first second));
      }
