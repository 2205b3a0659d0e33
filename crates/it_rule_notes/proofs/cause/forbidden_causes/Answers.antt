use Rattle.it_base.proofs.Elements.{kept_all}
use Rattle.it_rule_notes.specs.Cause.{TellsCause}
use Rattle.it_rule_notes.specs.inside.JudgedRules.{judging_in}
use Rattle.it_rule_notes.proofs.cause.forbidden_causes.Goals as goal

pub loop-path-preserved : goal.loop-path-preserved
loop-path-preserved c =
    rw c.in_ok-push_some.ensures
    (kept_all (TellsCause (judging_in c.args.judged.now) c.args.place.now) c.loop-path.notes.items _
    c.loop-path.invariant c.in_ok-forbidden_cause.ensures)
