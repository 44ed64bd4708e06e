-- `conditions::transfer_condition` meets its contract: no transition is the first that is not answered. Assumes nothing.
use Rattle.conditions.proofs.Answers.{transfer-iff}
use Rattle.conditions.proofs.transfer_condition.Goals as goal

pub returns : goal.returns
returns c =
    let ok = c.requires.formed in
    transfer-iff c.args.table.now ok.0 _ c.args.p c.args.q ok.2 c.offset.ensures.0 c.first_unanswered.ensures
