-- `refinement::refine_action` meets its contract: Rem and the hits are those of the rule, and one action is `splitting::refine_by`. Assumes nothing.
use mathlib.Core.Path.{sym, ◌∙◌}
use Rattle.sets.proofs.Lists.{set-in, any-off}
use Rattle.refinement.proofs.Actions.{acted-cong, idle-acted, hits-owned}
use Rattle.std.proofs.Common.{rules}
use Rattle.refinement.proofs.refine_action.Goals as goal

pub returns-then-not-any : goal.returns-then-not-any
returns-then-not-any c =
    let none = any-off 256 _ (sym c.any.ensures ∙ c.if-not-any.true) in
    record {
      by_index = λ t ix most covers. idle-acted _ _ _ _ _ c.requires.0 c.requires.1 (λ j. search rules) (λ j. search rules)
          (λ q h. sym (set-in _ (c.removed-rem.ensures t ix most covers) q h) ∙ none q h);
      parted = c.requires.2;
    }

pub refine_by-requires : goal.refine_by-requires
refine_by-requires c =
    let p = c.requires.3 in
    (c.requires.0, c.requires.1, c.requires.2, hits-owned p.1.formed _ _ _ p.4 (c.sources_into-hits.ensures p.0 p.1 p.3))

pub returns : goal.returns
returns c = record { by_index = λ t ix most covers. acted-cong (set-in _ (c.removed-rem.ensures t ix most covers)) (set-in _ (c.sources_into-hits.ensures t ix most)) c.refine_by.ensures.acted; parted = c.refine_by.ensures.parted }
