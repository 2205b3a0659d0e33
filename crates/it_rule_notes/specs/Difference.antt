-- Where two links differ.
use Rattle.std.specs.Prelude.{◌≢◌}
use Rattle.std.specs.FinMap.{get}
use Rattle.it_digest.specs.Artifacts.{ArtifactMap}
use Rattle.it_docs.specs.declared.link.Link.{Link}
use Rattle.it_docs.specs.declared.rule.Side.{Side}
use Rattle.it_docs.specs.declared.rule.Side.TheVariants.{Materials, Products}
use Rattle.it_rule_notes.specs.declared.difference.Difference.{Difference}

-- what a link records on a side
abbrev pub recorded_on : Side → Link → ArtifactMap
recorded_on Materials link = link.materials
recorded_on Products link = link.products

-- on the side, the links do not have the same digests at the path
abbrev pub IsDifference : Link → Link → Difference → Type 0
IsDifference one other found =
    get (recorded_on found.side one) found.path ≢ get (recorded_on found.side other) found.path
