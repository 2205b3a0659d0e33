use Rattle.std.proofs.Common.{arith, leb, le-ltb, rules, of_calls, sym, ◌∙◌}
use Rattle.std.proofs.lemmas.Fn.{always_returns_same}
use Rattle.std.proofs.lemmas.List.Sorted.{IsPartitionedBy-leb}
use Rattle.it_glob.proofs.Searched.{found_at_last, found_nowhere}
use Rattle.it_glob.proofs.ranges.is_in_ranges.Goals as goal

pub returns-then-count-gt0 : goal.returns-then-count-gt0
returns-then-count-gt0 c =
    let point = c.partition_point-count.ensures.partitioned (λ r. leb r.first c.args.character)
    (always_returns_same _ _ _ (λ a r f k. search (rules, of_calls)))
    (IsPartitionedBy-leb (λ r. r.first) _ c.args.character c.requires.firsts) in
    found_at_last _ _ _ point c.requires.lasts _ c.if-count-gt0.true
    c.partition_point-count.ensures.bound

pub returns-else-count-gt0 : goal.returns-else-count-gt0
returns-else-count-gt0 c =
    let point = c.partition_point-count.ensures.partitioned (λ r. leb r.first c.args.character)
    (always_returns_same _ _ _ (λ a r f k. search (rules, of_calls)))
    (IsPartitionedBy-leb (λ r. r.first) _ c.args.character c.requires.firsts) in
    le-ltb 0 _ c.if-count-gt0.false
    ∙ sym (found_nowhere _ _ _ point (omega (arith, c.if-count-gt0.false)))
