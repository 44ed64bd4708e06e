-- The end start and the ready start of each sheet, as they are written: each is a start, and holds what it should.
use mathlib.Core.Path.{◌≡◌, sym, subst}
use mathlib.Core.Logic.{◌↔◌}
use mathlib.Core.List.{List}
use Prim.Native.Nat.{ℕ, ◌<◌}
use lib.Dec.{T}
use Rattle.lts.specs.System.{Rel, Lts, WellFormed, reflexive, transitive, termination_preorder}
use Rattle.lts.specs.Refinement.{Run}
use Rattle.lts.specs.Ready.{ready_preorder, Ready}
use Rattle.lts.specs.Rule.{Nothing, broken}
use Rattle.lts.proofs.Bounded.{imp-iff}
use Rattle.lts.proofs.Comparison.{termination-tests}
use Rattle.lts.proofs.Ready.{ready}
use Rattle.lts.proofs.Schedule.{start-same}
use Rattle.encoding.specs.Records.{header_of}
use Rattle.encoding.specs.Encoding.{sheet_rules}
use Rattle.encoding.specs.Denotation.{lts_of}
use Rattle.encoding.proofs.Laws.{denoted}
use Rattle.encoding.proofs.Reader.{reads, kept-readable}
use Rattle.relation.specs.Matrix.{relation_of, matrix_of}
use Rattle.relation.specs.Check.{start_rules}
use Rattle.relation.proofs.Starts.{matrix-kept}
use Rattle.relation.proofs.Matrices.{relation-matrix}
use Rattle.simulation.specs.Calls.{EndStart, ReadyStart}

-- what is written of a readable sheet is what is meant
pub record StartMeans (start : Lts → Rel) (Meant : List ℕ → List ℕ → Type 0) : Type 0 where
  pub meant : (s : List ℕ) → broken (sheet_rules s) ≡ Nothing → Meant s (matrix_of (header_of s).states (start (lts_of s)))

module _ (s : List ℕ) (start : Lts → Rel) where
  abbrev matrix : List ℕ
  matrix = matrix_of (header_of s).states (start (lts_of s))

  is-start : T (reflexive (lts_of s) (start (lts_of s))) × T (transitive (lts_of s) (start (lts_of s))) → broken (start_rules (header_of s).states matrix) ≡ Nothing
  unfolding lts_of
  is-start tests = matrix-kept (lts_of s) (start (lts_of s)) tests.0 tests.1

  holds-iff : {A : Type 0} (p q : ℕ) → p < (header_of s).states → q < (header_of s).states → T (start (lts_of s) p q) ↔ A
      → T (relation_of (header_of s).states matrix p q) ↔ A
  holds-iff p q lp lq i =
      let e = relation-matrix (header_of s).states (start (lts_of s)) p q lp lq in
      (λ t. i.0 (subst T e t), λ f. subst T (sym e) (i.1 f))

-- the end start of any bytes
pub end-start-kept : (s : List ℕ) → broken (start_rules (header_of s).states (matrix_of (header_of s).states (termination_preorder (lts_of s)))) ≡ Nothing
end-start-kept s = is-start s termination_preorder (termination-tests (lts_of s))

pub end-start : StartMeans termination_preorder EndStart
unfolding termination_preorder
end-start = record {
  meant = λ s _. record {
    start = end-start-kept s;
    holds = λ p q lp lq. holds-iff s termination_preorder p q lp lq (imp-iff ((lts_of s).terminating p) ((lts_of s).terminating q));
  };
}

pub ready-start : StartMeans ready_preorder ReadyStart
unfolding lts_of
ready-start = record {
  meant = λ s e.
      let formed : WellFormed (lts_of s) = (denoted s (header_of s) (reads s (header_of s) (kept-readable s e))).formed in
      let is : Ready (lts_of s) = ready (lts_of s) formed in
      record {
        start = is-start s ready_preorder (is.reflexive, is.transitive);
        holds = λ p q lp lq. holds-iff s ready_preorder p q lp lq (is.holds p q);
        kept = λ schedule p q lp lq.
            let same = start-same (lts_of s) (relation_of (header_of s).states (matrix s ready_preorder)) (ready_preorder (lts_of s)) schedule
            (relation-matrix (header_of s).states (ready_preorder (lts_of s))) in
            let k = is.kept schedule p q lp lq in
            (λ t. k.0 (subst (λ (r : Run). T (r.final.related p q)) same t), λ x. subst (λ (r : Run). T (r.final.related p q)) (sym same) (k.1 x));
      };
}
