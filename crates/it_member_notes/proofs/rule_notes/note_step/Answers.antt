use Rattle.it_member_notes.proofs.Noting.{are_rules_of_step}
use Rattle.it_member_notes.proofs.rule_notes.note_step.Goals as goal

pub note_rules-requires-clause-are_rules : goal.note_rules-requires-clause-are_rules
note_rules-requires-clause-are_rules c =
    are_rules_of_step c.args.named.now.layout.now _ _ _ _ c.args.step.now c.requires.in_layout
    c.in_ok-list.ensures.item c.in_ok-list.ensures.side c.in_ok-list.ensures.rules
