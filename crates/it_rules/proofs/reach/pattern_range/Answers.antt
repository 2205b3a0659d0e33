use Rattle.it_rules.specs.Rules.{IsMatch}
use Rattle.it_rules.proofs.Reached.{front_covers}
use Rattle.it_rules.proofs.reach.pattern_range.Goals as goal

pub returns : goal.returns
returns c = front_covers (IsMatch c.args.pattern.now) c.args.paths.now c.literal_front.result.now _
    _ c.requires c.front_range.ensures c.literal_front.ensures.begins
