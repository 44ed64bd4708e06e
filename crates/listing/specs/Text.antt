-- The whole text that the program flowcheck prints for a sheet (document 01, "Flows on each side").
use Rattle.std.specs.Prelude.{ℕ, ◌≤◌, ◌≡◌, List, [], ◌++◌, length, take}
use Rattle.lts.specs.Bounded.{concat_below}
use Rattle.lts.specs.System.{Lts, termination_preorder}
use Rattle.lts.specs.Refinement.{coarsest, pair_count, block_count, representative}
use Rattle.lts.specs.Refusal.{refusal_number}
use Rattle.lts.specs.Rule.{checked}
use Rattle.encoding.specs.Encoding.{sheet_rules}
use Rattle.encoding.specs.Denotation.{lts_of}
use Rattle.lines.specs.Lines.{head_line, state_line, refused_line}

-- the text of a flow, from the end start and with an empty turn list: the first line, then a line a page
unfoldable pub system_text : Lts → List ℕ
system_text L =
    let n = L.states in
    let r = coarsest L (termination_preorder L) [] in
    let K = r.final.related in
    head_line n r.steps (pair_count L K) (block_count L K) ++ concat_below n (λ p. state_line n K (representative L K p) p)

-- the text of a sheet: the text of its flow; a refusal prints its one line
unfoldable pub flow_text : List ℕ → List ℕ
flow_text s = checked (sheet_rules s) (λ r. refused_line (refusal_number r)) (system_text (lts_of s))

-- text is the first `size` bytes of a buffer
abbrev pub Part : ℕ → List ℕ → List ℕ → Type 0
Part size buffer text = (size ≤ length buffer) × (size ≡ length (take size buffer)) × (take size buffer ≡ text)
