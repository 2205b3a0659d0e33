-- What an artifact rule is judged over: the artifacts that an item recorded, and those that other
-- items recorded under their names.
use Rattle.std.specs.Prelude.{ℕ, List, map}
use Rattle.it_digest.specs.Artifacts.{ArtifactMap}
use Rattle.it_docs.specs.declared.rule.Side.{Side}
use Rattle.it_docs.specs.declared.rule.Side.TheVariants.{Materials, Products}
use Rattle.it_rules.specs.declared.item.Item.{Item}
use Rattle.it_rules.specs.declared.item.Named.{Named}

-- the artifacts of an item
pub record Recorded : Type 0 where
  pub materials : ArtifactMap
  pub products : ArtifactMap

-- what items recorded, each under its name
abbrev pub Links : Type 0
Links = List (List ℕ × Recorded)

-- the artifacts on one side
abbrev pub artifacts_on : Side → Recorded → ArtifactMap
artifacts_on Materials item = item.materials
artifacts_on Products item = item.products

-- what a lent item recorded
abbrev pub recorded_of : Item → Recorded
recorded_of item = record { materials = item.materials.now; products = item.products.now }

-- what lent items recorded, each under its name
abbrev pub links_of : List Named → Links
links_of links = map (λ link. (link.name.now, recorded_of link.item)) links
