use Rattle.std.proofs.Common.{[], ◌++◌, codes}
use Rattle.it_rule_notes.specs.Cause.{different_form}
use Rattle.it_rule_notes.specs.DigestWords.{digests_form}
use Rattle.it_rule_notes.specs.Line.{told_form}
use Rattle.it_rule_notes.proofs.Appended.{appended_next, appended_twice}
use Rattle.it_rule_notes.proofs.miss_line.push_different.Goals as goal

pub returns : goal.returns
unfolding different_form
returns c =
    let sets = c.args.sets.now in
    let first = told_form [] c.args.from.now (codes " recorded") in
    let there = digests_form sets.there in
    let middle = codes ", and here it has" in
    let here = digests_form sets.here in
    let end = codes "\n" in
    appended_twice c.push_text-2.result c.args.text.now.items c.push_digests-2.new.text.items
    c.push_text-2.new.text.items (first ++ there ++ middle ++ here) end
    (appended_next c.args.text.now.items c.push_text.new.text.items c.push_digests-2.new.text.items
    (first ++ there ++ middle) here
    (appended_next c.args.text.now.items c.push_digests.new.text.items c.push_text.new.text.items
    (first ++ there) middle
    (appended_next c.args.text.now.items c.push_told.new.text.items c.push_digests.new.text.items
    first there
    c.in_ok-push_told.ensures
    c.in_ok-push_digests.ensures)
    c.in_ok-push_text.ensures)
    c.in_ok-push_digests-2.ensures)
    c.push_text-2.ensures
