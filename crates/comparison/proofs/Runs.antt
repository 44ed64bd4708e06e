-- The run on a table from a start of it, and the reply that is read from it.
use Prim.Native.Nat.{ℕ, ◌+◌, ◌*◌, ◌<◌}
use mathlib.Core.Path.{◌≡◌, sym, ap, ap₂, subst, subst⁻¹, ◌∙◌}
use mathlib.Core.Bool.{Bool, cond}
use mathlib.Core.List.{List, [], ◌∷◌}
use lib.Dec.{T}
use Rattle.lts.specs.System.{Rel, Lts}
use Rattle.lts.specs.Refinement.{Run, coarsest}
use Rattle.lts.specs.Rule.{given}
use Rattle.lts.proofs.System.{Preorder}
use Rattle.lts.proofs.Schedule.{start-same}
use Rattle.rows.specs.Rows.{row_words}
use Rattle.relation.specs.Matrix.{relation_of, matrix_of}
use Rattle.relation.proofs.Matrices.{relation-of, formed-of}
use Rattle.transitions.specs.Table.{states_of, table_lts, Holds}
use Rattle.lts.specs.Union.{disjoint_union}
use Rattle.encoding.specs.declared.Header.{Header}
use Rattle.encoding.specs.Checked.{ReadableAs}
use Rattle.encoding.specs.Denotation.{lts_of}
use Rattle.encoding.proofs.Denotation.{lts-states}
use Rattle.refinement.specs.Engine.{Start}
use Rattle.comparison.specs.Run.{run_reply, pair_reply}

module _ (from : Lts → Rel) (t start : List ℕ) (written : start ≡ matrix_of (states_of t) (from (table_lts t))) where
  same_start : (p q : ℕ) → p < states_of t → q < states_of t → relation_of (states_of t) start p q ≡ from (table_lts t) p q
  same_start = relation-of (states_of t) _ written

  pub start_is : Preorder (table_lts t) (from (table_lts t)) → Start (states_of t) start
  unfolding table_lts
  start_is pre = record {
    matrix = formed-of (states_of t) _ written;
    loop = λ p l. subst⁻¹ T (same_start p p l l) (pre.loop p l);
    chain = λ p q r l m o u v. subst⁻¹ T (same_start p r l o) (pre.chain p q r l m o (subst T (same_start p q l m) u) (subst T (same_start q r m o) v));
  }

  pub started-reply : (q : ℕ) → pair_reply from (table_lts t) q ≡ run_reply (coarsest (table_lts t) (relation_of (states_of t) start) []) q
  unfolding pair_reply table_lts
  started-reply q = sym (ap (λ (r : Run). run_reply r q) (start-same (table_lts t) (relation_of (states_of t) start) (from (table_lts t)) [] same_start))

-- the words of a matrix on as many states
pub size_is : {k n size : ℕ} → n ≡ k → size ≡ n * row_words n → size ≡ k * row_words k
size_is states words = words ∙ ap (λ (i : ℕ). i * row_words i) states

-- the reply read from the matrix of a run
pub run-reply : (n : ℕ) (r : Run) (q : ℕ) {m steps : ℕ} {related : List ℕ} {b : Bool} → 0 < n → q < n → related ≡ matrix_of n r.final.related
    → m ≡ n → b ≡ relation_of m related 0 q → steps ≡ r.steps → run_reply r q ≡ given (cond b 1 0 ∷ steps ∷ [])
unfolding run_reply
run-reply n r q {related = related} some below e same f g =
    sym (ap₂ (λ (x : Bool) (i : ℕ). given (cond x 1 0 ∷ i ∷ [])) (f ∙ ap (λ (k : ℕ). relation_of k related 0 q) same ∙ relation-of n _ e 0 q some below) g)

-- the states of a table that holds a sheet's system and, behind it, another
pub joined-states : (s : List ℕ) (h : Header) → ReadableAs s h → (M : Lts) {t : List ℕ} → Holds (disjoint_union (lts_of s) M) t → states_of t ≡ h.states + M.states
unfolding table_lts disjoint_union
joined-states s h first M k = ap (λ (L : Lts). L.states) k.same ∙ ap (λ (n : ℕ). n + M.states) (lts-states s h first.header)
