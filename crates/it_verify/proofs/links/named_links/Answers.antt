use Rattle.std.proofs.Common.{List, ℕ, rules}
use Rattle.std.proofs.lemmas.Iterator.{YieldsList-from_map_by, YieldsList-from_slice}
use Rattle.std.proofs.lemmas.Iterator.Consumers.{YieldsList-from_chain, map_from_collect}
use Rattle.it_chain.specs.declared.chain.StepResult.{StepResult}
use Rattle.it_chain.specs.StepRules.{recorded_in as recorded_by}
use Rattle.it_docs.specs.declared.link.Link.{Link}
use Rattle.it_rules.specs.Item.{Recorded, recorded_of}
use Rattle.it_rules.specs.declared.item.Named.{Named}
use Rattle.it_verify.specs.Inspections.{recorded_in}
use Rattle.it_verify.proofs.links.named_links.Goals as goal

abbrev shown : Named → List ℕ × Recorded
shown link = (link.name.now, recorded_of link.item)

abbrev of_step : StepResult → List ℕ × Recorded
of_step step = (step.name, recorded_by step)

abbrev of_inspection : Link → List ℕ × Recorded
of_inspection link = (link.name, recorded_in link)

pub returns : goal.returns
returns c = record {
  links = map_from_collect _ c.collect.ensures.ran (YieldsList-from_chain
      (YieldsList-from_map_by _ shown of_step (YieldsList-from_slice c.args.steps.now cc) (cc)
      (λ x r q k. search rules))
      (YieldsList-from_map_by _ shown of_inspection
      (YieldsList-from_slice c.args.inspections.now cc) (cc) (λ x r q k. search rules))
      (cc) cc);
}
