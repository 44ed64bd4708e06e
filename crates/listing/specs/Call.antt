-- For the crate's own functions: what the call of coarsest asks for, and the text of what it gives.
use Rattle.std.specs.Prelude.{ℕ, ◌*◌, ◌<◌, ◌≡◌, List, ◌++◌, length}
use Rattle.encoding.specs.declared.Header.{Header}
use Rattle.encoding.specs.Checked.{ReadableAs}
use Rattle.rows.specs.Rows.{row_words}
use Rattle.relation.specs.Matrix.{relation_of}
use Rattle.coarsest.specs.declared.Counts.{Counts}
use Rattle.lines.specs.Lines.{head_line, states_text}

-- a readable encoding, and buffers of the lengths that it asks for
pub record Fitting (s : List ℕ) (h : Header) (start grid representatives : List ℕ) : Type 0 where
  pub readable : ReadableAs s h
  pub start-long : length start ≡ h.states * row_words h.states
  pub grid-long : length grid ≡ h.states * row_words h.states
  pub representatives-long : length representatives ≡ h.states

-- counts that have at most five digits
pub record Small (c : Counts) : Type 0 where
  pub steps : c.steps < 100000
  pub pairs : c.pairs < 100000
  pub blocks : c.blocks < 100000

-- the text of a result of n states
abbrev pub result_text : ℕ → Counts → List ℕ → List ℕ → List ℕ
result_text n c grid representatives =
    head_line n c.steps c.pairs c.blocks ++ states_text n (relation_of n grid) representatives
