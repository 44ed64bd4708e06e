-- The call of coarsest that is made on a readable encoding: it refuses nothing, its counts are small, and its text is the system's.
use Prim.Native.Nat.{ℕ, ◌*◌, ◌≤◌}
use mathlib.Core.Path.{◌≡◌, refl, sym, ap, ◌∙◌, subst}
use mathlib.Core.List.{List, []}
use native.Mathlib.Nat.{mul-le-mul}
use native.Mathlib.Omega.{arith}
use Rattle.lts.specs.System.{Lts, termination_preorder}
use Rattle.lts.specs.Refinement.{Run, coarsest, block_count, is_representative}
use Rattle.lts.specs.declared.Refusal.{Refusal}
use Rattle.lts.specs.Rule.{Nothing, broken, Answer}
use Rattle.lts.proofs.Comparison.{termination-preorder}
use Rattle.lts.proofs.Count.{count_most}
use Rattle.lts.proofs.Run.{pair-count-most, coarsest-steps}
use Rattle.lts.proofs.Schedule.{start-same}
use Rattle.lts.proofs.Rule.{second-part, numbered}
use Rattle.encoding.specs.declared.Header.{Header}
use Rattle.encoding.specs.Records.{header_of}
use Rattle.encoding.specs.Checked.{ReadableAs}
use Rattle.encoding.specs.Denotation.{lts_of}
use Rattle.encoding.proofs.Laws.{denoted}
use Rattle.encoding.proofs.Reader.{reads, readable-kept}
use Rattle.rows.specs.Rows.{row_words}
use Rattle.relation.specs.Matrix.{relation_of, matrix_of}
use Rattle.relation.proofs.Matrices.{relation-matrix}
use Rattle.inputs.specs.Inputs.{input_rules}
use Rattle.simulation.specs.Calls.{WriteStartOutcome, write_start_call}
use Rattle.simulation.proofs.CallLaws.{written}
use Rattle.simulation.proofs.Starts.{end-start-kept}
use Rattle.coarsest.specs.declared.Counts.{Counts}
use Rattle.coarsest.specs.Call.{CoarsestOutcome, coarsest_reply, refined, coarsest_call}
use Rattle.coarsest.proofs.Laws.{fit-rules, refining}
use Rattle.listing.specs.Call.{Fitting, Small, result_text}
use Rattle.listing.specs.Text.{system_text}
use Rattle.listing.proofs.Texts.{counts_in, outcome_text, refined-text}
use Rattle.std.specs.Prelude.{Ok, Err}

square : (n : ℕ) → n ≤ 256 → n * n ≤ 65536
square n h = let t = mul-le-mul h h in omega arith

-- a readable encoding, and the run from its end start
module _ {s : List ℕ} {h : Header} (ok : ReadableAs s h) where
  abbrev L : Lts
  L = lts_of s

  abbrev flow_run : Run
  flow_run = coarsest L (termination_preorder L) []

  pub states-most : h.states ≤ 256
  states-most = ok.recorded.sized.bounds.states

  pub size : L.states ≡ h.states
  size = (denoted s h (reads s h ok)).states

  pub counts-small : Small (counts_in (refined L (termination_preorder L) []))
  unfolding refined block_count
  counts-small =
      let most : L.states ≤ 256 = omega (arith, size, states-most) in
      let t = square L.states most in
      record {
        steps = omega (arith, coarsest-steps L (denoted s h (reads s h ok)).formed (termination_preorder L) (termination-preorder L) []);
        pairs = omega (arith, pair-count-most L flow_run.final.related);
        blocks = omega (arith, count_most L.states (is_representative L flow_run.final.related));
      }

-- the end start as a matrix is where the run goes on from
module _ (s : List ℕ) where
  abbrev end : List ℕ
  end = matrix_of (header_of s).states (termination_preorder (lts_of s))

  run_is : coarsest (lts_of s) (relation_of (header_of s).states end) [] ≡ coarsest (lts_of s) (termination_preorder (lts_of s)) []
  unfolding lts_of
  run_is = start-same (lts_of s) (relation_of (header_of s).states end) (termination_preorder (lts_of s)) []
      (relation-matrix (header_of s).states (termination_preorder (lts_of s)))

  refined-is : refined (lts_of s) (relation_of (header_of s).states end) [] ≡ refined (lts_of s) (termination_preorder (lts_of s)) []
  unfolding refined
  refined-is = rw run_is

-- what coarsest gives
abbrev outcome_of : Answer Counts → List ℕ → List ℕ → CoarsestOutcome
outcome_of a grid representatives = record { reply = coarsest_reply a; grid = grid; representatives = representatives }

module _ {s : List ℕ} {h : Header} {start grid representatives : List ℕ} (fits : Fitting s h start grid representatives) where
  abbrev call : CoarsestOutcome
  call = coarsest_call s (write_start_call termination_preorder s start).grid [] grid representatives

  start_is : (write_start_call termination_preorder s start).grid ≡ end s
  start_is =
      ap (λ (o : WriteStartOutcome). o.grid) (written termination_preorder s start (reads s h fits.readable) fits.start-long refl)
      ∙ ap (λ (x : Header). matrix_of x.states (termination_preorder (lts_of s))) fits.readable.header

  inputs-kept : broken (input_rules s (end s)) ≡ Nothing
  unfolding input_rules
  inputs-kept = second-part _ _ (readable-kept fits.readable) ∙ end-start-kept s

  call-is : call ≡ refined (lts_of s) (termination_preorder (lts_of s)) []
  call-is =
      let e = fits.readable.header in
      let long = fits.grid-long ∙ ap (λ (x : Header). x.states * row_words x.states) e in
      let rules = fit-rules s (end s) grid representatives inputs-kept long (fits.representatives-long ∙ ap (λ (x : Header). x.states) e) in
      rw start_is (refining s (end s) [] grid representatives (header_of s).states refl rules ∙ refined-is s)

  -- by the answer a, and the words g and m that it leaves
  given_is : {a b : Answer Counts} {g m : List ℕ} → a ≡ b → call ≡ outcome_of a g m → refined (lts_of s) (termination_preorder (lts_of s)) [] ≡ outcome_of b g m
  given_is {g = g} {m = m} e is = sym call-is ∙ is ∙ ap (λ (x : Answer Counts). outcome_of x g m) e

  pub never-refused : {a : Answer Counts} {r : Refusal} {g m : List ℕ} → a ≡ Err r → call ≡ outcome_of a g m → ⊥
  unfolding refined coarsest_reply
  never-refused {r = r} e is = numbered r (ap (λ (o : CoarsestOutcome). o.reply.refusal) (given_is e is))

  pub flow-small : {a : Answer Counts} {c : Counts} {g m : List ℕ} → a ≡ Ok c → call ≡ outcome_of a g m → Small c
  unfolding coarsest_reply
  flow-small e is = subst Small (ap counts_in (given_is e is)) (counts-small fits.readable)

  pub flow-text : {a : Answer Counts} {c : Counts} {g m : List ℕ} → a ≡ Ok c → call ≡ outcome_of a g m → result_text h.states c g m ≡ system_text (lts_of s)
  unfolding coarsest_reply
  flow-text e is =
      sym (ap (outcome_text h.states) (given_is e is))
      ∙ ap (λ (n : ℕ). outcome_text n (refined (lts_of s) (termination_preorder (lts_of s)) [])) (sym (size fits.readable))
      ∙ refined-text (lts_of s)
