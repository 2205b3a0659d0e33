use Rattle.std.proofs.Common.{◌≡◌, take}
use Rattle.it_rules.specs.Item.{links_of}
use Rattle.it_chain.specs.StepRules.{links_in}
use Rattle.it_chain.proofs.links.links_to.Given as goal

-- the links to the records so far
abbrev pub invariant-loop-found : goal.invariant-loop-found
invariant-loop-found l = links_of l.links.items ≡ links_in (take l.found-index l.results)
