use Rattle.std.proofs.Common.{rules, nat_cmp}
use Rattle.std.specs.Ordering.{ordering_then}
use Rattle.std.specs.BTreeSet.{IsFromIterResult}
use Rattle.std.proofs.lemmas.Iterator.{YieldsList-from_map, YieldsList-from_slice}
use Rattle.std.proofs.lemmas.Iterator.Adapters.{fact_from_collect}
use Rattle.it_chain.specs.declared.record.IdRecord.{IdRecord}
use Rattle.it_chain.proofs.threshold.keys_in.Goals as goal

pub returns : goal.returns
returns c = fact_from_collect
    (IsFromIterResult (λ a b. ordering_then (nat_cmp a.0 b.0) (nat_cmp a.1 b.1))) c.collect.result
    c.collect.ensures.ran (YieldsList-from_map _ (λ (r : IdRecord). r.key)
    (YieldsList-from_slice c.args.records.now cc) c.map.ensures.closure (λ x r q k. search rules))
