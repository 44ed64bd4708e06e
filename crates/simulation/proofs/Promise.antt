-- What is promised of end start, of ready start and of test simulation follows from their equations.
use mathlib.Core.Path.{◌≡◌, refl, sym, ap, subst}
use mathlib.Core.Logic.{◌↔◌}
use mathlib.Core.List.{List, []}
use Prim.Native.Nat.{ℕ, ◌<◌}
use lib.Dec.{T}
use Rattle.lts.specs.Bounded.{restrict}
use Rattle.lts.specs.System.{Rel, Lts, WellFormed, is_simulation, within, answered, Simulation}
use Rattle.lts.specs.declared.Refusal.{Refusal}
use Rattle.lts.specs.Rule.{Nothing, First, broken, Reply, refused, given}
use Rattle.lts.proofs.Bounded.{and-iff, restrict-iff}
use Rattle.lts.proofs.Rule.{both-kept, when-broken, when-kept, decided}
use Rattle.lts.proofs.System.{within-iff, answered-iff}
use Rattle.encoding.specs.Records.{header_of}
use Rattle.encoding.specs.Encoding.{sheet_rules}
use Rattle.encoding.specs.Denotation.{lts_of}
use Rattle.encoding.proofs.Laws.{denoted}
use Rattle.encoding.proofs.Reader.{reads}
use Rattle.relation.specs.Matrix.{relation_of, matrix_of}
use Rattle.inputs.specs.Inputs.{input_rules}
use Rattle.inputs.proofs.Laws.{kept-ready}
use Rattle.simulation.specs.Calls.{WriteStartOutcome, write_start_rules, write_start_call, WriteStartPromise, is_inside, simulation_rules, simulation_call, SimulationPromise}
use Rattle.simulation.proofs.Starts.{StartMeans}

-- ## End start and ready start
module _ {start : Lts → Rel} {Meant : List ℕ → List ℕ → Type 0} (means : StartMeans start Meant) (s grid₀ : List ℕ) (reply : Reply) (grid : List ℕ)
    (is : write_start_call start s grid₀ ≡ record { reply = reply; grid = grid }) where
  broken-is : {r : Refusal} → broken (write_start_rules s grid₀) ≡ First r
      → ◌≡◌ {A = WriteStartOutcome} (record { reply = reply; grid = grid }) (record { reply = refused r; grid = grid₀ })
  unfolding write_start_call
  broken-is e = when-broken (write_start_rules s grid₀) _ _ is e

  kept-is : broken (write_start_rules s grid₀) ≡ Nothing
      → ◌≡◌ {A = WriteStartOutcome} (record { reply = reply; grid = grid })
      (record { reply = given []; grid = matrix_of (header_of s).states (start (lts_of s)) })
  unfolding write_start_call
  kept-is e = when-kept (write_start_rules s grid₀) _ _ is e

  readable : broken (write_start_rules s grid₀) ≡ Nothing → broken (sheet_rules s) ≡ Nothing
  unfolding write_start_rules
  readable e = (both-kept (sheet_rules s) _ e).0

  pub start-promised : WriteStartPromise Meant s grid₀ reply grid
  start-promised = record {
    refuses = λ r e. (ap (λ (o : WriteStartOutcome). o.reply) (broken-is e), ap (λ (o : WriteStartOutcome). o.grid) (broken-is e));
    answers = λ e. (
      ap (λ (o : WriteStartOutcome). o.reply) (kept-is e),
      subst (Meant s) (sym (ap (λ (o : WriteStartOutcome). o.grid) (kept-is e))) (means.meant s (readable e)),
    );
  }

-- ## Test simulation
-- the two tests look at the pairs of states alone
inside-iff : {L : Lts} → WellFormed L → (start claim : Rel)
    → T (is_inside L start claim) ↔ Simulation L start (λ p q. T (restrict L.states claim p q))
unfolding is_inside is_simulation
inside-iff {L} wf start claim = (to, from)
  where
    at : (p q : ℕ) → T (restrict L.states claim p q) ↔ ((p < L.states) × (q < L.states) × T (claim p q))
    at = restrict-iff L.states claim

    to : T (is_inside L start claim) → Simulation L start (λ p q. T (restrict L.states claim p q))
    to e = let b = (and-iff (is_simulation L claim) (within L claim start)).0 e in record {
      states = λ {p} {q} r. let x = (at p q).0 r in (x.0, x.1);
      inside = λ {p} {q} r. let x = (at p q).0 r in (within-iff L claim start).0 b.1 p q x.0 x.1 x.2;
      answer = λ {p} {q} a t r m.
          let x = (at p q).0 r in
          let y = (answered-iff wf claim p q).0 ((within-iff L claim (answered L claim)).0 b.0 p q x.0 x.1 x.2) a t m in
          (y.0, y.1, (at t y.0).1 (wf.target p a t m, wf.target q a y.0 y.1, y.2));
    }

    from : Simulation L start (λ p q. T (restrict L.states claim p q)) → T (is_inside L start claim)
    from s = (and-iff (is_simulation L claim) (within L claim start)).1 (
      (within-iff L claim (answered L claim)).1 (λ p q l m c. (answered-iff wf claim p q).1 (λ a t move.
          let y = s.answer a t ((at p q).1 (l, m, c)) move in (y.0, y.1, ((at t y.0).0 y.2).2))),
      (within-iff L claim start).1 (λ p q l m c. s.inside ((at p q).1 (l, m, c))),
    )

module _ (s start claim : List ℕ) where
  abbrev n : ℕ
  n = (header_of s).states

  formed : broken (simulation_rules s start claim) ≡ Nothing → WellFormed (lts_of s)
  unfolding simulation_rules
  formed e = (denoted s (header_of s) (reads s (header_of s) (kept-ready s start refl (both-kept (input_rules s start) _ e).0).readable)).formed

  pub yes_iff : broken (simulation_rules s start claim) ≡ Nothing
      → T (is_inside (lts_of s) (relation_of n start) (relation_of n claim))
      ↔ Simulation (lts_of s) (relation_of n start) (λ p q. T (restrict n (relation_of n claim) p q))
  unfolding lts_of
  yes_iff e = inside-iff (formed e) (relation_of n start) (relation_of n claim)

  pub simulation-promised : (reply : Reply) → simulation_call s start claim ≡ reply → SimulationPromise s start claim reply
  unfolding simulation_call
  simulation-promised reply is = record {
    refuses = λ r e. when-broken (simulation_rules s start claim) _ _ is e;
    answers = λ e. decided (is_inside (lts_of s) (relation_of n start) (relation_of n claim)) [] (yes_iff e)
        (when-kept (simulation_rules s start claim) _ _ is e);
  }
