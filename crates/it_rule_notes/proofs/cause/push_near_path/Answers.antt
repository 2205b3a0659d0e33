use Rattle.it_rule_notes.specs.Cause.{near_path_form}
use Rattle.it_rule_notes.proofs.Appended.{appended_twice}
use Rattle.it_rule_notes.proofs.cause.push_near_path.Goals as goal

pub returns : goal.returns
unfolding near_path_form
returns c =
    appended_twice _ _ _ _ _ _ c.in_ok-push_told.ensures c.push_told-2.ensures
