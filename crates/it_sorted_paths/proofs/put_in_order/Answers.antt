use Rattle.std.proofs.Common.{string_bytes}
use Rattle.std.proofs.lemmas.List.Filters.{dedup_is}
use Rattle.it_sorted_paths.proofs.SortedTexts.{same_texts, texts_rise}
use Rattle.it_sorted_paths.proofs.put_in_order.Goals as goal

pub returns-clause-same : goal.returns-clause-same
returns-clause-same c =
    rw (dedup_is _ _ _ c.dedup.ensures.filtered)
    (same_texts string_bytes c.args.paths.now.items c.sort_unstable.new.self.items
    c.sort_unstable.ensures.permutation c.sort_unstable.ensures.sorted)

pub returns-clause-rises : goal.returns-clause-rises
returns-clause-rises c =
    rw (dedup_is _ _ _ c.dedup.ensures.filtered)
    (texts_rise string_bytes c.args.paths.now.items c.sort_unstable.new.self.items
    c.sort_unstable.ensures.permutation c.sort_unstable.ensures.sorted)
