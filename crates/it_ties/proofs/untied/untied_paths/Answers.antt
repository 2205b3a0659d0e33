use Rattle.std.proofs.Common.{map}
use Rattle.it_rules.specs.Item.{links_of, recorded_of}
use Rattle.it_rules.proofs.LentPaths.{bytes}
use Rattle.it_ties.proofs.Marking.{untied}
use Rattle.it_ties.proofs.untied.untied_paths.Goals as goal

pub returns : goal.returns
returns c =
    let left = rw (c.deref-2.ensures.value, c.deref-3.ensures.value) at c.in_ok-left.ensures in
    let tied = rw c.deref.ensures.value at c.in_ok-tied.ensures.tied in
    untied c.args.steps.now (recorded_of c.args.item.now) (links_of c.args.links.now)
    c.in_ok-paths.paths.items c.args.rules.now c.in_ok-tied.tied.items
    (map bytes c.in_ok-left.left.items) c.in_ok-paths.ensures.paths tied left
