use Rattle.std.proofs.Common.{◌++◌, codes}
use Rattle.it_rule_notes.specs.Cause.{unshared_form}
use Rattle.it_rule_notes.specs.DigestWords.{algorithms_form}
use Rattle.it_rule_notes.specs.Line.{told_form}
use Rattle.it_rule_notes.proofs.Appended.{appended_next, appended_twice}
use Rattle.it_rule_notes.proofs.miss_line.push_unshared.Goals as goal

pub returns : goal.returns
unfolding unshared_form
returns c =
    let sets = c.args.sets.now in
    let first = told_form (codes "no algorithm is in both, of ") c.args.from.now (codes ":") in
    let there = algorithms_form sets.there in
    let middle = codes ", and here:" in
    let here = algorithms_form sets.here in
    let end = codes "\n" in
    appended_twice c.push_text-2.result c.args.text.now.items c.push_algorithms-2.new.text.items
    c.push_text-2.new.text.items (first ++ there ++ middle ++ here) end
    (appended_next c.args.text.now.items c.push_text.new.text.items c.push_algorithms-2.new.text.items
    (first ++ there ++ middle) here
    (appended_next c.args.text.now.items c.push_algorithms.new.text.items c.push_text.new.text.items
    (first ++ there) middle
    (appended_next c.args.text.now.items c.push_told.new.text.items c.push_algorithms.new.text.items
    first there
    c.in_ok-push_told.ensures
    c.in_ok-push_algorithms.ensures)
    c.in_ok-push_text.ensures)
    c.in_ok-push_algorithms-2.ensures)
    c.push_text-2.ensures
