use Rattle.std.proofs.Common.{[], ◌++◌, codes}
use Rattle.it_report.specs.Report.{side_form}
use Rattle.it_rule_notes.specs.Cause.{near_form, unrecorded_form}
use Rattle.it_rule_notes.specs.Line.{told_form}
use Rattle.it_rule_notes.proofs.Appended.{appended_next, appended_twice}
use Rattle.it_rule_notes.proofs.miss_line.push_unrecorded.Goals as goal

pub returns : goal.returns
unfolding unrecorded_form
returns c =
    let target = c.args.target.now in
    let first = told_form (codes "no ") target.path (codes " is among the ") in
    let side = side_form target.side in
    let from = told_form (codes " of ") target.from [] in
    let near = near_form c.args.near.now in
    appended_twice c.push_near.result c.args.text.now.items c.push_told-2.new.text.items
    c.push_near.new.text.items (first ++ side ++ from) near
    (appended_next c.args.text.now.items c.push_text.new.text.items c.push_told-2.new.text.items
    (first ++ side) from
    (appended_next c.args.text.now.items c.push_told.new.text.items c.push_text.new.text.items
    first side
    c.in_ok-push_told.ensures
    (rw c.side_text.ensures at c.in_ok-push_text.ensures))
    c.in_ok-push_told-2.ensures)
    c.push_near.ensures
