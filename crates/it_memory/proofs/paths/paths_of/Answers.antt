use Rattle.std.proofs.Common.{◌∙◌, ◌+◌, ◌++◌, ◌∷◌, [], ap, map, subst, sym, take}
use Rattle.std.proofs.lemmas.List.{map-append, map_more}
use Rattle.it_rules.specs.Ranges.{AreInOrder}
use Rattle.it_memory.proofs.Ordered.{in_order_more, now_of, path_of}
use Rattle.it_sorted_paths.specs.Order.{IsNext}
use Rattle.it_memory.proofs.paths.paths_of.Goals as goal

pub loop-file-preserved : goal.loop-file-preserved
loop-file-preserved c =
    let before = c.loop-file.invariant in
    let files = c.args.files.now in
    let i = c.loop-file.file-index in
    let path = c.in_ok-path.path in
    let paths = c.loop-file.paths.items in
    let next = subst (λ ps. IsNext ps path.now) c.as_slice.ensures.value c.in_ok-path.ensures.next in
    record {
      in_order = subst AreInOrder (sym c.in_ok-push.ensures.items)
          (in_order_more paths path before.in_order next);
      same = ap (map now_of) c.in_ok-push.ensures.items ∙ map-append now_of paths (path ∷ [])
          ∙ ap (λ ps. ps ++ path.now ∷ []) before.same
          ∙ ap (λ p. map path_of (take i files) ++ p ∷ []) c.in_ok-path.ensures.same
          ∙ sym (map_more path_of files i _ c.loop-file-test.true);
    }
