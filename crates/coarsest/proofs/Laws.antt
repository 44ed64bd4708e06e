-- The run on a table and on an encoding; the rules of coarsest, part by part; and what the call comes to.
use Prim.Native.Nat.{ℕ, ◌*◌, ◌<◌}
use mathlib.Core.Path.{◌≡◌, refl, sym, ap, subst, ◌∙◌}
use mathlib.Core.Bool.{Bool, true, false, cond, not, ◌&&◌, ◌||◌}
use mathlib.Core.List.{List, [], ◌∷◌}
use lib.Dec.{T, eqb, eqb→eq}
use lib.ListN.{length}
use borrow.Author.Tests.{eq-eqb, not-false}
use Rattle.lts.specs.Bounded.{sum_below, count_below, list_below, lowest}
use Rattle.lts.specs.System.{Rel, Lts}
use Rattle.lts.specs.Refinement.{Run, block, pair_count, block_count, representatives as representatives_of, coarsest}
use Rattle.lts.specs.declared.Refusal.{Refusal}
use Rattle.lts.specs.declared.Refusal.TheVariants.{Buffer}
use Rattle.lts.specs.Rule.{◌otherwise◌, Nothing, First, broken}
use Rattle.lts.proofs.Bounded.{test-ext, and-iff}
use Rattle.lts.proofs.System.{Preorder, preorder-iff}
use Rattle.lts.proofs.Step.{block-iff}
use Rattle.lts.proofs.Run.{Coarsest, coarsest-is}
use Rattle.lts.proofs.Rule.{stop, pass, done, first_part, second-part, refuses, passes}
use Rattle.encoding.specs.Records.{header_of}
use Rattle.inputs.specs.Inputs.{input_rules}
use Rattle.encoding.specs.Denotation.{lts_of}
use Rattle.rows.specs.Rows.{row_words}
use Rattle.transitions.specs.Table.{states_of, table_lts, Formed}
use Rattle.transitions.proofs.Entries.{table-formed}
use Rattle.relation.specs.Matrix.{relation_of, matrix_of, Matrix, pair_count as pairsBelow}
use Rattle.relation.specs.Check.{start_rules}
use Rattle.lts.proofs.Below.{sum-cong}
use Rattle.relation.proofs.Matrices.{relation-of, formed-of}
use Rattle.relation.proofs.Checks.{checked-matrix, checked-reflexive, checked-transitive}
use Rattle.partition.specs.Pending.{Reflexive}
use Rattle.partition.proofs.Laws as partition
use Rattle.refinement.specs.Engine.{Start}
use Rattle.coarsest.specs.Call.{coarsest_reply, CoarsestOutcome, coarsest_rules, refined, coarsest_call}
use Rattle.std.specs.Prelude.{Ok, Err}

-- the code's test of the two lengths
lengths : (a b : Bool) → not a || not b ≡ not (a && b)
lengths true b = refl
lengths false b = refl

-- two lengths that fit
pub fit-lengths : (a b c d : ℕ) → not (eqb a b) || not (eqb c d) ≡ false → (a ≡ b) × (c ≡ d)
fit-lengths a b c d e =
    let both = not-false (eqb a b && eqb c d) (sym (lengths (eqb a b) (eqb c d)) ∙ e) in
    let t = (and-iff (eqb a b) (eqb c d)).0 (subst T (sym both) tt) in
    (eqb→eq a b t.0, eqb→eq c d t.1)

-- ---- the matrices at the end of a run, and its counts

module _ (L : Lts) (r : Run) (n : ℕ) (size : L.states ≡ n) (related blocks : List ℕ)
    (related-is : related ≡ matrix_of n r.final.related) (blocks_is : blocks ≡ matrix_of n (block r.final.related)) where
  abbrev K : Rel
  K = r.final.related

  same-related : (p q : ℕ) → p < n → q < n → K p q ≡ K p q
  same-related p q l m = refl

  same_blocks : (p q : ℕ) → p < n → q < n → relation_of n blocks p q ≡ block K p q
  same_blocks = relation-of n _ blocks_is

  pub names-is : (representatives : List ℕ) → representatives ≡ list_below n (λ p. lowest n (relation_of n blocks p)) → representatives ≡ representatives_of L K
  names-is representatives e = e ∙ partition.names-are L r.final n K (relation_of n blocks) size same-related same_blocks

  pub blocks-count : count_below n (λ p. eqb (lowest n (relation_of n blocks p)) p) ≡ block_count L K
  blocks-count = partition.block-count-is L r.final n K (relation_of n blocks) size same-related same_blocks

  pub pairs-count : pairsBelow n (relation_of n related) ≡ pair_count L K
  unfolding pairsBelow pair_count count_below
  pairs-count =
      sum-cong n _ _ (λ p l. sum-cong n _ _ (λ q m. ap (λ (b : Bool). cond b 1 0) (relation-of n _ related-is p q l m)))
      ∙ ap (λ (k : ℕ). sum_below k (λ p. sum_below k (λ q. cond (K p q) 1 0))) (sym size)

  pub blocks-reflexive : (start : Rel) → Coarsest L start K → Reflexive n (relation_of n blocks)
  blocks-reflexive start is = record {
    loop = λ p l.
        let k = is.loop p (subst (λ (x : ℕ). p < x) (sym size) l) in
        same_blocks p p l l ∙ test-ext (block K p p) true (λ _. tt) (λ _. (block-iff K p p).1 (k, k));
  }

-- ---- a start that was checked, and the run on a table

pub start_of : (n : ℕ) (start : List ℕ) → broken (start_rules n start) ≡ Nothing → Start n start
start_of n start e = record { matrix = checked-matrix n start e; loop = pre.loop; chain = pre.chain }
  where
    L : Lts
    L = record { states = n; actions = 0; terminating = λ p. false; transition = λ p a q. false }

    pre : Preorder L (relation_of n start)
    pre = (preorder-iff L (relation_of n start)).0 (checked-reflexive n start e L refl, checked-transitive n start e L refl)

module _ {t start : List ℕ} (ok : Formed t) (st : Start (states_of t) start) (schedule : List ℕ) where
  abbrev L : Lts
  L = table_lts t

  abbrev table_run : Run
  table_run = coarsest L (relation_of (states_of t) start) schedule

  pre : Preorder L (relation_of (states_of t) start)
  unfolding table_lts
  pre = record { loop = st.loop; chain = st.chain }

  module _ {n : ℕ} (states-are : n ≡ states_of t) {related blocks : List ℕ} (related-is : related ≡ matrix_of (states_of t) table_run.final.related)
      (blocks_is : blocks ≡ matrix_of (states_of t) (block table_run.final.related)) where
    size : L.states ≡ n
    unfolding table_lts
    size = sym states-are

    related-at : related ≡ matrix_of n table_run.final.related
    related-at = related-is ∙ ap (λ (n : ℕ). matrix_of n table_run.final.related) (sym states-are)

    blocks_at : blocks ≡ matrix_of n (block table_run.final.related)
    blocks_at = blocks_is ∙ ap (λ (n : ℕ). matrix_of n (block table_run.final.related)) (sym states-are)

    pub table-related : Matrix n related
    table-related = formed-of n _ related-at

    pub table-blocks : Matrix n blocks
    table-blocks = formed-of n _ blocks_at

    pub table-reflexive : Reflexive n (relation_of n blocks)
    table-reflexive = blocks-reflexive L table_run n size related blocks related-at blocks_at (relation_of (states_of t) start)
        (coarsest-is L (table-formed t ok) (relation_of (states_of t) start) pre schedule)

    pub table-refined : {steps pairs count : ℕ} {representatives : List ℕ} → steps ≡ table_run.steps → pairs ≡ pairsBelow n (relation_of n related)
        → count ≡ count_below n (λ p. eqb (lowest n (relation_of n blocks p)) p) → representatives ≡ list_below n (λ p. lowest n (relation_of n blocks p))
        → refined L (relation_of (states_of t) start) schedule
        ≡ record { reply = coarsest_reply (Ok (record { steps = steps; pairs = pairs; blocks = count })); grid = related; representatives = representatives }
    unfolding refined coarsest_reply
    table-refined {representatives = representatives} a b c e =
        rw (
          a,
          b ∙ pairs-count L table_run n size related blocks related-at blocks_at,
          c ∙ blocks-count L table_run n size related blocks related-at blocks_at,
          names-is L table_run n size related blocks related-at blocks_at representatives e,
          related-at,
          size,
        )

-- ---- the rules, part by part

module _ (s start grid representatives : List ℕ) (n : ℕ) (size : n ≡ (header_of s).states) (read : broken (input_rules s start) ≡ Nothing) where
  abbrev fits : Bool
  fits = eqb (length grid) (n * row_words n) && eqb (length representatives) n

  left : broken (coarsest_rules s start grid representatives) ≡ broken (fits otherwise Buffer ∷ [])
  unfolding coarsest_rules
  left = rw size (second-part _ _ read)

  pub misfit : not (eqb (length grid) (n * row_words n)) || not (eqb (length representatives) n) ≡ true → broken (coarsest_rules s start grid representatives) ≡ First Buffer
  misfit t = stop fits Buffer [] left refl (sym (lengths (eqb (length grid) (n * row_words n)) (eqb (length representatives) n)) ∙ t)

  pub fitting : not (eqb (length grid) (n * row_words n)) || not (eqb (length representatives) n) ≡ false → broken (coarsest_rules s start grid representatives) ≡ Nothing
  fitting t = done (pass fits Buffer [] left refl (sym (lengths (eqb (length grid) (n * row_words n)) (eqb (length representatives) n)) ∙ t))

-- with buffers of the right lengths
pub fit-rules : (s start grid representatives : List ℕ) → broken (input_rules s start) ≡ Nothing
    → length grid ≡ (header_of s).states * row_words (header_of s).states → length representatives ≡ (header_of s).states → broken (coarsest_rules s start grid representatives) ≡ Nothing
fit-rules s start grid representatives read a b = fitting s start grid representatives (header_of s).states refl read (rw (eq-eqb _ _ a, eq-eqb _ _ b))

-- ---- what the call comes to, by its rules

module _ (s start schedule grid representatives : List ℕ) where
  abbrev call : CoarsestOutcome
  call = coarsest_call s start schedule grid representatives

  pub unready : {r : Refusal} → broken (input_rules s start) ≡ First r → broken (coarsest_rules s start grid representatives) ≡ First r
  unfolding coarsest_rules
  unready e = first_part _ _ e

  pub refusing : {r : Refusal} → broken (coarsest_rules s start grid representatives) ≡ First r → call ≡ record { reply = coarsest_reply (Err r); grid = grid; representatives = representatives }
  unfolding coarsest_call coarsest_reply
  refusing e = refuses _ _ _ e

  pub refining : (n : ℕ) → n ≡ (header_of s).states → broken (coarsest_rules s start grid representatives) ≡ Nothing → call ≡ refined (lts_of s) (relation_of n start) schedule
  unfolding coarsest_call
  refining n size e = rw size (passes _ _ _ e)
