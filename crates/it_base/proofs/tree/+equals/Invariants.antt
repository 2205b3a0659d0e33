use Rattle.std.proofs.Common.{◌≡◌, length}
use Rattle.std.specs.Iterator.Adapters.{zip_first, zip_second}
use Rattle.std.specs.Slice.Iter.{iter_rest}
use Rattle.it_base.specs.Equal.{equal_items, equal_fields}
use Rattle.it_base.specs.JsonView.{items_view, fields_view}
use Rattle.it_base.proofs.tree.+equals.Given as goal

-- what is left is of one length in both, and equal exactly where the whole lists are
abbrev pub invariant-Trees::equals-loop-x : goal.invariant-Trees::equals-loop-x
invariant-Trees::equals-loop-x l = record {
  long : length (iter_rest (zip_first l.x-iterator)) ≡ length (iter_rest (zip_second l.x-iterator));
  rest : equal_items (items_view (iter_rest (zip_first l.x-iterator)))
      (items_view (iter_rest (zip_second l.x-iterator))) ≡ equal_items l.self l.other;
}

abbrev pub invariant-Members::equals-loop-k : goal.invariant-Members::equals-loop-k
invariant-Members::equals-loop-k l = record {
  long : length (zip_first l.k-iterator) ≡ length (zip_second l.k-iterator);
  rest : equal_fields (fields_view (zip_first l.k-iterator)) (fields_view (zip_second l.k-iterator))
      ≡ equal_fields l.self l.other;
}
