use Rattle.std.proofs.Common.{map}
use Rattle.it_rules.proofs.LentPaths.{bytes}
use Rattle.it_rules.specs.Item.{links_of, recorded_of}
use Rattle.it_rule_notes.proofs.FreeBefore.{free_of_front}
use Rattle.it_rule_notes.proofs.judged.free_before.Goals as goal

pub returns : goal.returns
returns c =
    free_of_front c.args.judged.now.rules.now c.args.index c.requires.index
    c.args.judged.now.side (recorded_of c.args.judged.now.item)
    (links_of c.args.judged.now.links.now) (map bytes c.in_ok-paths.paths.items)
    c.in_ok-paths.ensures
