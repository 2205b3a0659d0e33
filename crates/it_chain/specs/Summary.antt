-- The artifacts that a sublayout gives the step that it was signed for (in-toto 1.0 section 5.2,
-- verifying the final product).
use Rattle.std.specs.Prelude.{List, [], ◌∷◌}
use Rattle.std.specs.FinMap.{empty}
use Rattle.it_digest.specs.Artifacts.{ArtifactMap}
use Rattle.it_rules.specs.Item.{Recorded}
use Rattle.it_chain.specs.declared.chain.StepResult.{StepResult}

-- the materials of the first step, and none where there are no steps
abbrev pub first_materials : List StepResult → ArtifactMap
first_materials [] = empty
first_materials (result ∷ results) = result.materials

-- the products of the last step, and those before where there are no steps
abbrev pub last_products : ArtifactMap → List StepResult → ArtifactMap
last_products before [] = before
last_products before (result ∷ results) = last_products result.products results

-- what a sublayout gives: the materials of its first step and the products of its last, and
-- nothing where it has no steps
abbrev pub summary : List StepResult → Recorded
summary results =
    record { materials = first_materials results; products = last_products empty results }
