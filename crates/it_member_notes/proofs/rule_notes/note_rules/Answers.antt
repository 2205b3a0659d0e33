use Rattle.std.proofs.lemmas.List.Elements.{All-head, All-push, All-tail}
use Rattle.it_member_notes.specs.LayoutNotes.{Holds}
use Rattle.it_member_notes.specs.RuleListNotes.{IsOfRules}
use Rattle.it_member_notes.proofs.rule_notes.note_rules.Goals as goal

pub loop-note-preserved : goal.loop-note-preserved
loop-note-preserved c =
    let left = rw c.in-Some.ensures.steps.0 at c.loop-note.invariant.left in
    let P = IsOfRules c.args.named.now.layout.now c.args.list.now.rules.now in
    record {
      made = rw c.in_ok-push.ensures.items
          (All-push (Holds c.args.named.now.layout.now) _ _ c.loop-note.invariant.made
          (record {
            rules = c.args.list.now.rules.now;
            are_rules = rw c.in_ok-copy.ensures c.requires.are_rules;
            is_so = All-head P c.in-Some.note _ left;
          }));
      left = All-tail P c.in-Some.note _ left;
    }
