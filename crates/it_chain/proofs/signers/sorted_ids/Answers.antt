use Rattle.std.proofs.lemmas.List.Filters.{dedup_is}
use Rattle.it_chain.proofs.SortedIds.{sorted_are_ids}
use Rattle.it_chain.proofs.signers.sorted_ids.Goals as goal

pub returns : goal.returns
returns c =
    rw (dedup_is _ _ _ c.dedup.ensures.filtered)
    (sorted_are_ids c.args.ids.now c.in_ok-sorted.sorted.items c.sort_unstable.new.self.items
    c.in_ok-sorted.ensures c.sort_unstable.ensures.permutation c.sort_unstable.ensures.sorted)
