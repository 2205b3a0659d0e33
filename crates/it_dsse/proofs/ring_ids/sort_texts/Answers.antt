use Rattle.std.proofs.Common.{string_bytes}
use Rattle.std.proofs.lemmas.List.Sorted.{IsPermutation-map}
use Rattle.std.proofs.lemmas.Result.{on_ok_weaker}
use Rattle.std.specs.Cmp.Lexicographic.{slice_cmp}
use Rattle.std.specs.Ordering.{is_lt, nat_cmp}
use Rattle.it_base.proofs.Elements.{sorted_map}
use Rattle.it_dsse.proofs.ring_ids.sort_texts.Goals as goal

pub returns-clause-same : goal.returns-clause-same
returns-clause-same c =
    on_ok_weaker c.sort.result
    (λ _. IsPermutation-map string_bytes c.args.texts.now.items c.sort.new.self.items
    c.sort.ensures.permutation)
    c.sort.ensures.sorted

pub returns-clause-ordered : goal.returns-clause-ordered
returns-clause-ordered c =
    on_ok_weaker c.sort.result (λ h. sorted_map string_bytes (λ a b. is_lt (slice_cmp nat_cmp a b))
    c.sort.new.self.items h)
    c.sort.ensures.sorted
