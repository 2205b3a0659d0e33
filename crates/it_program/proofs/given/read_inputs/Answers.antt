use Rattle.std.proofs.Common.{rules, ℕ, List, IsTrue, sym, subst}
use Rattle.it_chain.specs.Contents.{Contents}
use Rattle.it_disk.specs.Reading.{AreLimited}
use Rattle.it_limits.specs.Limit.{IsWithinLimit}
use Rattle.it_program.proofs.given.read_inputs.Goals as goal

pub returns-clause-inputs : goal.returns-clause-inputs
returns-clause-inputs g c = record {
  policy = search rules;
  layout = search rules;
  layout_limited = subst (λ (l : List ℕ). IsTrue c.args.words.now.public_keys → IsWithinLimit l)
      (sym c.layout-2.view_is) c.in_ok-layout.ensures.limited;
  links = search rules;
  links_limited = subst (λ (l : Contents). AreLimited c.args.words.now.public_keys l)
      (sym c.links-2.view_is) c.in_ok-links.ensures.limited;
  records = search rules;
  provenance = c.in_ok-provenance.ensures.provenance;
  sums = search rules;
  sums512 = search rules;
  moment = search rules;
  depth = search rules;
}
