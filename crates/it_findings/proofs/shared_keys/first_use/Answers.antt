use Rattle.std.proofs.Common.{◌∙◌, None, Some}
use Rattle.it_findings.proofs.FirstPlaces.{first_at}
use Rattle.it_findings.proofs.shared_keys.first_use.Goals as goal

pub returns-in-Some : goal.returns-in-Some
returns-in-Some c key named =
    c.use_at.ensures
    ∙ first_at c.args.uses.now c.args.places.now key c.args.name.now
    (Some c.in-Some.place.now) c.requires c.in-Some.ensures named

pub returns-in-None : goal.returns-in-None
returns-in-None c key named =
    first_at c.args.uses.now c.args.places.now key c.args.name.now None c.requires
    c.in-None.ensures named
