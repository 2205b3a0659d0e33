use Rattle.std.proofs.Common.{◌≡◌, ◌∙◌, ◌∷◌, [], ap, append_assoc, map, string_bytes}
use Rattle.std.specs.Path.{path_join}
use Rattle.std.specs.Vec.Iter.{into_iter_items}
use Rattle.std.proofs.lemmas.List.{map-append}
use Rattle.std.proofs.lemmas.Slice.Zip.{all_zipped_more}
use Rattle.it_disk.specs.Walks.{IsListed}
use Rattle.it_disk.proofs.listing.entries_under.Goals as goal

pub loop-name-preserved : goal.loop-name-preserved
loop-name-preserved g c =
    let at = c.loop-name in
    let name = c.in-Some.name in
    let folder = c.args.folder.now in
    let seen = g.T.Tree.seen c.args.tree.now in
    let steps : into_iter_items at.name-iterator ≡ name ∷ into_iter_items c.next.new.self =
    c.in-Some.ensures.steps.0 in
    let joined : c.as_str-in-loop-name.result.now ≡ path_join folder (string_bytes name) =
    c.as_str-in-loop-name.ensures ∙ c.in_ok-path.ensures
    ∙ ap (path_join folder) c.as_str.ensures.value in
    record {
      given = append_assoc at.yielded (name ∷ []) _ ∙ rw (← steps) at.invariant.given;
      listed = rw (c.in_ok-push.ensures.items, map-append)
          (all_zipped_more (IsListed seen folder) (map string_bytes at.yielded) at.entries.items
          (string_bytes name) (record { name = c.from-name.result; kind = c.in_ok-kind.kind })
          at.invariant.listed
          (record {
            named = c.from-name.ensures;
            is_there = rw joined at c.in_ok-kind.ensures;
          }));
    }
