-- What shows that a layout holds: the records of its steps and of its inspections (in-toto 1.0
-- section 5.2).
use Rattle.std.specs.List.{AllZip}
use Rattle.std.specs.Prelude.{◌++◌, map}
use Rattle.it_dsse.specs.Panel.{Panel}
use Rattle.it_rules.specs.Item.{Links}
use Rattle.it_chain.specs.Chain.{Chain}
use Rattle.it_chain.specs.StepRules.{links_in}
use Rattle.it_verify.specs.Documents.{Documents, setting_of}
use Rattle.it_verify.specs.Inspections.{HasRecorded, recorded_in}
use Rattle.it_verify.specs.declared.inputs.Inputs.{Inputs}
pub use Rattle.it_verify.specs.declared.evidence.Evidence.{Evidence}

-- the layout holds for the links with these records of its steps, and these are what its
-- inspections recorded
pub record IsEvidence (panel : Panel) (inputs : Inputs) (documents : Documents)
    (evidence : Evidence) : Type 0 where
  pub steps : Chain
      (setting_of panel documents) inputs.depth documents.layout inputs.links evidence.steps
  pub inspections : AllZip (HasRecorded inputs) documents.layout.inspections evidence.inspections

-- what a MATCH may name: the steps and the inspections of the layout
abbrev pub evidence_links : Evidence → Links
evidence_links evidence =
    links_in evidence.steps ++ map (λ link. (link.name, recorded_in link)) evidence.inspections
