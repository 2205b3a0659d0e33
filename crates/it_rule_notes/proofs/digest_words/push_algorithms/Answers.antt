use Rattle.std.proofs.Common.{◌++◌, codes}
use Rattle.it_rule_notes.specs.DigestWords.{algorithm_form, algorithms_form}
use Rattle.it_rule_notes.proofs.Appended.{appended_next, appended_twice}
use Rattle.it_rule_notes.proofs.digest_words.push_algorithms.Goals as goal

pub returns : goal.returns
unfolding algorithms_form
returns c =
    let set = c.args.set.now in
    let first = algorithm_form (codes "sha256") set.sha256 in
    let second = algorithm_form (codes "sha384") set.sha384 in
    let third = algorithm_form (codes "sha512") set.sha512 in
    appended_twice c.push_algorithm-3.result c.args.text.now.items c.push_algorithm-2.new.text.items
    c.push_algorithm-3.new.text.items (first ++ second) third
    (appended_next c.args.text.now.items c.push_algorithm.new.text.items c.push_algorithm-2.new.text.items
    first second
    c.in_ok-push_algorithm.ensures
    c.in_ok-push_algorithm-2.ensures)
    c.push_algorithm-3.ensures
