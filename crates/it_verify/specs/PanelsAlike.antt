-- Panels of checks that are alike on every key that a verification can ask for (specific to this
-- project; no standard covers it).
use Rattle.std.specs.Prelude.{Contains}
use Rattle.it_dsse.specs.Panel.{Panel}
use Rattle.it_docs.specs.Policy.{PolicyOf}
use Rattle.it_docs.specs.declared.policy.Builder.{Builder}
use Rattle.it_docs.specs.declared.policy.Expectation.{Expectation}
use Rattle.it_docs.specs.declared.policy.Policy.{Policy}
use Rattle.it_chain.specs.AlikePanels.{PanelsAlike, PanelsAlikeOver}
use Rattle.it_verify.specs.Documents.{Documents, ReadAs}
use Rattle.it_verify.specs.Owners.{OwnersSign}
use Rattle.it_verify.specs.declared.inputs.Inputs.{Inputs}

-- two panels are alike on the keys of the owners and of the builders and, where every owner signed
-- the layout, on its keys and those of the sublayouts that count
pub record PanelsAlikeFor (panel other : Panel) (inputs : Inputs) : Type 0 where
  pub owners : (policy : Policy) → PolicyOf inputs.policy policy
      → PanelsAlike panel other policy.owners
  pub builders : (policy : Policy) (expectation : Expectation) (builder : Builder)
      → PolicyOf inputs.policy policy → Contains policy.expectations expectation
      → Contains expectation.builders builder → PanelsAlike panel other builder.keys
  pub layouts : (documents : Documents) → ReadAs inputs documents
      → OwnersSign panel documents.envelope documents.policy.owners
      → PanelsAlikeOver panel other inputs.depth documents.layout inputs.links
