use Rattle.std.proofs.Common.{length, refl}
use Rattle.std.proofs.lemmas.List.Elements.{All-push}
use Rattle.std.proofs.lemmas.Option.{slice_get_read}
use Rattle.it_findings.specs.RuleFindings.{HasInspection, HasStep}
use Rattle.it_member_notes.specs.RuleListNotes.{IsOfRules}
use Rattle.it_member_notes.proofs.Noting.{not_so}
use Rattle.it_member_notes.proofs.list_notes.notes_on.Goals as goal
use Rattle.it_member_notes.proofs.list_notes.notes_on.Goals.{in-Match+then-not-is_in+in_ok-match_from_no_step+in_ok-push, in-Match+else-not-is_in, in_default}

pub loop-place-preserved : goal.loop-place-preserved
loop-place-preserved c =
    let rules = c.args.rules.now in
    elim c.match-rule.branch [
      | in-Match+then-not-is_in+in_ok-match_from_no_step+in_ok-push w ↦
          rw (w.notes-is, w.in_ok-push.ensures.items)
          (All-push (IsOfRules c.args.named.now.layout.now rules) _ _ c.loop-place.invariant
          (rw w.in_ok-match_from_no_step.ensures
          (record {
            rule = c.index-rules-place.result;
            stands = slice_get_read rules (length rules) c.loop-place.place c.index-rules-place.result refl
                c.loop-place-test.true c.index-rules-place.is;
            is_match = (rw w.in-Match.is refl);
            no_step = not_so w.is_in.result (HasStep c.args.named.now.layout.now w.in-Match.from)
                w.is_in.ensures.steps w.if-not-is_in.true;
            no_inspection = not_so w.is_in.result (HasInspection c.args.named.now.layout.now w.in-Match.from)
                w.is_in.ensures.inspections w.if-not-is_in.true;
          })))
      | in-Match+else-not-is_in w ↦ rw w.notes-is c.loop-place.invariant
      | in_default w ↦ rw w.notes-is c.loop-place.invariant
    ]
