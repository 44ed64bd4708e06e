-- `simulation::write_start` meets its contract: by the cases of the reading. Assumes nothing.
use mathlib.Core.Path.{sym, ◌∙◌}
use Rattle.encoding.proofs.Reader.{readable_of}
use Rattle.simulation.proofs.CallLaws.{stopped, misfit, written}
use Rattle.simulation.proofs.write_start.Goals as goal

pub returns-in_err-h : goal.returns-in_err-h
returns-in_err-h c = stopped _ _ _ c.from_residual.result (sym c.in_err-h.ensures.value) c.from_residual.ensures.1

pub matrix_words-requires : goal.matrix_words-requires
matrix_words-requires c = (readable_of (sym c.in_ok-h.ensures.value)).recorded.sized.bounds.states

pub returns-then-grid-matrix_words : goal.returns-then-grid-matrix_words
returns-then-grid-matrix_words c = misfit _ _ _ (sym c.in_ok-h.ensures.value) (λ e. c.if-grid-matrix_words.true (e ∙ sym c.matrix_words.ensures.0))

pub write_loaded-requires : goal.write_loaded-requires
write_loaded-requires c = (readable_of (sym c.in_ok-h.ensures.value), c.if-grid-matrix_words.false ∙ c.matrix_words.ensures.0)

pub returns : goal.returns
returns c = written _ _ _ (sym c.in_ok-h.ensures.value) (c.if-grid-matrix_words.false ∙ c.matrix_words.ensures.0) c.write_loaded.ensures
