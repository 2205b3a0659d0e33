use Rattle.std.proofs.Common.{◌++◌, codes}
use Rattle.it_rule_notes.specs.DigestWords.{digest_form, digests_form}
use Rattle.it_rule_notes.proofs.Appended.{appended_next, appended_twice}
use Rattle.it_rule_notes.proofs.digest_words.push_digests.Goals as goal

pub returns : goal.returns
unfolding digests_form
returns c =
    let set = c.args.set.now in
    let first = digest_form (codes "sha256") set.sha256 in
    let second = digest_form (codes "sha384") set.sha384 in
    let third = digest_form (codes "sha512") set.sha512 in
    appended_twice c.push_digest-3.result c.args.text.now.items c.push_digest-2.new.text.items
    c.push_digest-3.new.text.items (first ++ second) third
    (appended_next c.args.text.now.items c.push_digest.new.text.items c.push_digest-2.new.text.items
    first second
    c.in_ok-push_digest.ensures
    c.in_ok-push_digest-2.ensures)
    c.push_digest-3.ensures
