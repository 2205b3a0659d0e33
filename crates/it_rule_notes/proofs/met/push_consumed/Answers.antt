use Rattle.std.proofs.Common.{codes}
use Rattle.it_rule_notes.specs.Line.{told_form}
use Rattle.it_rule_notes.specs.Met.{consumed_form, consumer_form}
use Rattle.it_rule_notes.proofs.Appended.{appended_twice}
use Rattle.it_rule_notes.proofs.met.push_consumed.Goals as goal

pub returns : goal.returns
unfolding consumed_form
returns c =
    appended_twice c.push_consumer.result c.args.text.now.items c.push_told.new.text.items
    c.push_consumer.new.text.items
    (told_form (codes ": ") c.args.consumed.now.path (codes " was consumed by rule "))
    (consumer_form c.args.consumed.now) c.in_ok-push_told.ensures c.push_consumer.ensures
