use Rattle.std.proofs.Common.{rules}
use Rattle.std.proofs.lemmas.List.Sorted.{IsPartitionPoint-from_clause}
use Rattle.it_rules.proofs.Fronts.{before_first, front_range-is, reached_first}
use Rattle.it_rules.specs.inside.FrontOrder.{is_before, is_reached}
use Rattle.it_rules.proofs.ranges.front_range.Goals as goal

pub returns : goal.returns
returns c =
    let paths = c.args.paths.now in
    let front = c.args.front.now in
    let start = IsPartitionPoint-from_clause (λ p. is_before p.now front) paths _
    c.partition_point-start.ensures.partitioned (before_first paths front c.requires)
    (λ a r q k. search rules) in
    let end = IsPartitionPoint-from_clause (λ p. is_reached p.now front) paths _
    c.partition_point-end.ensures.partitioned (reached_first paths front c.requires)
    (λ a r q k. search rules) in
    front_range-is paths front c.requires _ _ start end c.partition_point-start.ensures.bound
    c.partition_point-end.ensures.bound
