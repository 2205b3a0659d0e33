use Rattle.std.proofs.Common.{◌≡◌, ◌∙◌, ◌++◌, ◌∷◌, [], append_assoc, codes, map, string_bytes, subst, sym}
use Rattle.std.specs.Path.{path_join}
use Rattle.std.specs.Vec.Iter.{into_iter_items}
use Rattle.std.proofs.lemmas.List.{map-append}
use Rattle.std.proofs.lemmas.List.Elements.{All-head, All-tail}
use Rattle.std.proofs.lemmas.Slice.Zip.{all_zipped_more}
use Rattle.it_disk.specs.Walks.{IsRecord}
use Rattle.it_disk.specs.inside.Entries.{IsEntryIn, shown}
use Rattle.it_disk.proofs.EntriesRead.{only_file}
use Rattle.it_disk.proofs.records.records_at.Goals as goal

pub loop-entry-preserved : goal.loop-entry-preserved
loop-entry-preserved g c =
    let at = c.loop-entry in
    let entry = c.in-Some.entry in
    let folder = c.args.folder.now in
    let seen = g.T.Tree.seen c.args.tree.now in
    let name = string_bytes entry.name in
    let steps : into_iter_items at.entry-iterator ≡ entry ∷ into_iter_items c.next.new.self =
    c.in-Some.ensures.steps.0 in
    let left = rw steps at at.invariant.left in
    let here = All-head (IsEntryIn folder 0) entry (into_iter_items c.next.new.self) left in
    let can = only_file name entry.kind here.readable in
    let named : name ≡ c.in_ok-inspection.inspection ++ codes ".link" =
    (rw c.as_str.ensures.value at c.in_ok-inspection.ensures) can.0 can.1 in
    let held = rw (c.as_str-in-loop-entry.ensures, here.at_path) at c.in_ok-bytes.ensures.holds in
    record {
      given = append_assoc at.yielded (entry ∷ []) _ ∙ rw (← steps) at.invariant.given;
      left = All-tail (IsEntryIn folder 0) entry (into_iter_items c.next.new.self) left;
      made = rw (c.in_ok-push.ensures.items, map-append)
          (all_zipped_more (IsRecord seen folder) (map shown at.yielded) at.records.items
          (shown entry) (c.in_ok-inspection.inspection, c.from.result) at.invariant.made
          (record {
            named = named;
            holds = subst (seen.file (path_join folder name)) (sym c.from.ensures) held;
          }));
    }
