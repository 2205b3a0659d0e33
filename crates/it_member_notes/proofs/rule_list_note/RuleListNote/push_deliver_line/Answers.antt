use Rattle.it_member_notes.proofs.Appending.{and_then}
use Rattle.it_member_notes.proofs.rule_list_note.RuleListNote.push_deliver_line.Goals as goal

pub returns : goal.returns
returns c =
    let old = c.args.out.now.items in
    and_then old _ _ c.push_text.new.out.items _
    (and_then old _ _ c.push_subject.new.out.items _ c.in_ok-push_subject.ensures
    c.in_ok-push_text.ensures) c.in_ok-push_predicate.ensures
