use Rattle.std.proofs.Common.{[], ◌++◌, codes}
use Rattle.it_rule_notes.specs.Cause.{miss_form, missed_form}
use Rattle.it_rule_notes.specs.Line.{told_form}
use Rattle.it_rule_notes.specs.RulePlace.{place_form}
use Rattle.it_rule_notes.proofs.Appended.{appended_next, appended_twice}
use Rattle.it_rule_notes.proofs.miss_line.push_missed.Goals as goal

pub returns : goal.returns
unfolding missed_form
returns c =
    let place = c.args.place.now in
    let missed = c.args.missed.now in
    let first = place_form (record { item = place.item; side = place.side; index = missed.index }) in
    let from = told_form (codes ", a MATCH from ") missed.target.from (codes ", does not take ") in
    let path = told_form [] c.args.path.now (codes ": ") in
    let why = miss_form missed.target missed.miss in
    appended_twice c.push_miss.result c.args.text.now.items c.push_told-2.new.text.items
    c.push_miss.new.text.items (first ++ from ++ path) why
    (appended_next c.args.text.now.items c.push_told.new.text.items c.push_told-2.new.text.items
    (first ++ from) path
    (appended_next c.args.text.now.items c.push_place_at.new.text.items c.push_told.new.text.items
    first from
    c.in_ok-push_place_at.ensures
    c.in_ok-push_told.ensures)
    c.in_ok-push_told-2.ensures)
    c.push_miss.ensures
