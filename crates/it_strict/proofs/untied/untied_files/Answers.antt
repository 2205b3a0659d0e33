use Rattle.std.proofs.Common.{subst, sym, ap, ◌∙◌}
use Rattle.it_rules.specs.Item.{links_of}
use Rattle.it_rules.specs.Rules.{NamesDiffer}
use Rattle.it_strict.proofs.untied.untied_files.Goals as goal

pub untied_among-requires : goal.untied_among-requires
untied_among-requires c =
    let are = ap links_of c.as_slice.ensures.value ∙ c.in_ok-links.ensures in
    subst NamesDiffer (sym are) c.requires
