-- The text of what coarsest gives is the text of the system; the text of a sheet, by its rules; and a text at the beginning of a buffer.
use Prim.Native.Nat.{ℕ, ◌<◌}
use native.Mathlib.Nat.{zero-add}
use mathlib.Core.Path.{◌≡◌, sym, ap, ◌∙◌}
use mathlib.Core.Bool.{Bool, cond}
use mathlib.Core.List.{List, [], ◌++◌}
use lib.ListN.{length, take, drop, get_or}
use lib.Seq.{take_at}
use Rattle.lts.specs.Bounded.{concat_below}
use Rattle.lts.specs.System.{Rel, Lts, termination_preorder}
use Rattle.lts.specs.Refinement.{coarsest, pair_count, block_count, representative, representatives as representatives_of}
use Rattle.lts.specs.declared.Refusal.{Refusal}
use Rattle.lts.specs.Refusal.{refusal_number}
use Rattle.lts.specs.Rule.{Nothing, First, broken}
use Rattle.lts.proofs.Rule.{refuses, passes}
use Rattle.encoding.specs.Encoding.{sheet_rules}
use Rattle.encoding.specs.Denotation.{lts_of}
use Rattle.lts.proofs.Lists.{concat-same}
use Rattle.relation.specs.Matrix.{relation_of, matrix_of}
use Rattle.lts.proofs.Below.{get_or-list_below}
use Rattle.relation.proofs.Matrices.{relation-matrix}
use Rattle.coarsest.specs.declared.Counts.{Counts}
use Rattle.coarsest.specs.Call.{CoarsestOutcome, refined}
use Rattle.report.specs.Decimal.{decimal, written}
use Rattle.lines.specs.Lines.{blank, line_feed, head_line, related_text, state_line, states_text, refused_line}
use Rattle.listing.specs.Call.{result_text}
use Rattle.listing.specs.Text.{system_text, flow_text}

-- a line looks at the relation on the states only
line_same : (n : ℕ) (R S : Rel) (name p : ℕ) → ((q : ℕ) → q < n → R p q ≡ S p q) → state_line n R name p ≡ state_line n S name p
unfolding state_line related_text
line_same n R S name p same =
    ap (λ (l : List ℕ). decimal p ++ (blank ++ decimal name) ++ l ++ line_feed)
    (concat-same n _ _ (λ q h. ap (λ (b : Bool). cond b (blank ++ decimal q) []) (same q h)))

-- the counts of an outcome without a refusal, and its text
abbrev pub counts_in : CoarsestOutcome → Counts
counts_in o =
    let values = o.reply.values in
    record { steps = get_or values 0 0; pairs = get_or values 1 0; blocks = get_or values 2 0 }

abbrev pub outcome_text : ℕ → CoarsestOutcome → List ℕ
outcome_text n o = result_text n (counts_in o) o.grid o.representatives

-- that of the run from the end start
module _ (L : Lts) where
  abbrev K : Rel
  K = (coarsest L (termination_preorder L) []).final.related

  name-at : (p : ℕ) → p < L.states → get_or (representatives_of L K) p 0 ≡ representative L K p
  unfolding representatives_of
  name-at p h = get_or-list_below 0 L.states (representative L K) p h

  states-same : states_text L.states (relation_of L.states (matrix_of L.states K)) (representatives_of L K)
      ≡ concat_below L.states (λ p. state_line L.states K (representative L K p) p)
  unfolding states_text
  states-same =
      concat-same L.states _ _ (λ p h. line_same L.states _ K _ p (λ q l. relation-matrix L.states K p q h l)
      ∙ ap (λ (x : ℕ). state_line L.states K x p) (name-at p h))

  pub refined-text : outcome_text L.states (refined L (termination_preorder L) []) ≡ system_text L
  unfolding system_text refined
  refined-text =
      ap (λ (l : List ℕ). head_line L.states (coarsest L (termination_preorder L) []).steps (pair_count L K) (block_count L K) ++ l) states-same

-- the text of a sheet that is refused, and of one that is read
pub refused-text : (s : List ℕ) {r : Refusal} → broken (sheet_rules s) ≡ First r → refused_line (refusal_number r) ≡ flow_text s
unfolding flow_text
refused-text s e = sym (refuses (sheet_rules s) _ _ e)

pub read-text : (s : List ℕ) → broken (sheet_rules s) ≡ Nothing → system_text (lts_of s) ≡ flow_text s
unfolding flow_text
read-text s e = sym (passes (sheet_rules s) _ _ e)

-- text at the beginning of a buffer
written-first : (text buffer : List ℕ) → written 0 text buffer ≡ text ++ drop (length text) buffer
unfolding written
written-first text buffer = rw (zero-add (length text))

-- a buffer that begins with the whole text
pub whole-first : (whole buffer : List ℕ) {text after : List ℕ} {size : ℕ} → text ≡ whole → size ≡ length text → after ≡ written 0 text buffer
    → (size ≡ length whole) × (after ≡ whole ++ drop size buffer) × (take size after ≡ whole)
whole-first whole buffer {size = size} e l w =
    let f = l ∙ ap length e in
    let g = w ∙ ap (λ (t : List ℕ). written 0 t buffer) e ∙ written-first whole buffer ∙ ap (λ (k : ℕ). whole ++ drop k buffer) (sym f) in
    (f, g, ap (take size) g ∙ take_at whole (drop size buffer) size (sym f))
