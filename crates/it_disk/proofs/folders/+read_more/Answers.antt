use Rattle.std.proofs.Common.{◌≡◌, ◌∙◌, ◌+◌, ◌-◌, ◌∷◌, [], ap, append_assoc, arith, map, refl, rules}
use Rattle.std.proofs.Common.{string_bytes, subst}
use Rattle.std.specs.Path.{path_join}
use Rattle.std.specs.Vec.Iter.{into_iter_items}
use Rattle.std.proofs.lemmas.List.{map-append}
use Rattle.std.proofs.lemmas.List.Elements.{All-head, All-tail}
use Rattle.it_disk.specs.Walks.{AreLinks, IsReadable, nothing}
use Rattle.it_disk.specs.inside.Entries.{IsEntryIn, shown}
use Rattle.it_disk.proofs.LinksRead.{folder_kept}
use Rattle.it_disk.proofs.folders.+read_more.Goals as goal

pub loop-entry-init : goal.loop-entry-init
loop-entry-init g t c =
    let items = c.in_ok-entries.entries.items in
    let given : into_iter_items c.into_iter-entry-iterator.result ≡ items = search rules in
    record {
      given = refl;
      left = rw given c.in_ok-entries.ensures.each;
      have = rw c.after-links.ensures.nothing nothing;
      limited = search rules;
      counted = search rules;
      listed = search rules;
      within = search rules;
    }

pub loop-entry-preserved-in-Continue-branch-4 : goal.loop-entry-preserved-in-Continue-branch-4
loop-entry-preserved-in-Continue-branch-4 g t c =
    let at = c.loop-entry in
    let entry = c.in-Some.entry in
    let folder = c.args.folder.now in
    let depth = c.args.depth in
    let before = at.invariant in
    let added = c.in_ok-add_file-in-File.ensures in
    let steps : into_iter_items at.entry-iterator ≡ entry ∷ into_iter_items c.next.new.self =
    c.in-Some.ensures.steps.0 in
    let left = rw steps at before.left in
    let here = All-head (IsEntryIn folder depth) entry (into_iter_items c.next.new.self) left in
    record {
      given = append_assoc at.yielded (entry ∷ []) _ ∙ rw (← steps) before.given;
      left = All-tail (IsEntryIn folder depth) entry (into_iter_items c.next.new.self) left;
      have = rw map-append
          (added.holds folder depth (map shown at.yielded) here c.in-File.is before.have);
      limited = added.limited before.limited;
      counted = added.counted c.args.read before.counted;
      listed =
          let u = c.in-Some.ensures.steps.1 in
          let v = added.count in
          let w = added.names in
          let z = before.listed in
          omega (arith, u, v, w, z);
      within = added.within before.within;
    }

pub loop-entry-preserved : goal.loop-entry-preserved
loop-entry-preserved g t c =
    let at = c.loop-entry in
    let entry = c.in-Some.entry in
    let folder = c.args.folder.now in
    let depth = c.args.depth in
    let name = string_bytes entry.name in
    let seen = g.T.Tree.seen c.args.tree.now in
    let before = at.invariant in
    let read = c.in_ok-so_far-in-Folder.ensures in
    let inner = c.in_ok-inner-in-Folder.ensures in
    let added = c.in_ok-add_folder-in-Folder.ensures in
    let below = c.in_ok-inner-in-Folder.inner.bundle in
    let steps : into_iter_items at.entry-iterator ≡ entry ∷ into_iter_items c.next.new.self =
    c.in-Some.ensures.steps.0 in
    let left = rw steps at before.left in
    let here = All-head (IsEntryIn folder depth) entry (into_iter_items c.next.new.self) left in
    let can = subst (IsReadable depth name) c.in-Folder.is here.readable in
    let deep : depth ≡ depth - 1 + 1 = (let least = can.0 in omega (arith, least)) in
    let joined : c.as_str-path.result.now ≡ path_join folder name = c.as_str-path.ensures
    ∙ here.at_path in
    record {
      given = append_assoc at.yielded (entry ∷ []) _ ∙ rw (← steps) before.given;
      left = All-tail (IsEntryIn folder depth) entry (into_iter_items c.next.new.self) left;
      have = rw (map-append, added.added)
          (folder_kept seen c.args.limited depth folder name entry.kind (map shown at.yielded)
          at.links.bundle before.have (depth - 1) below deep c.in-Folder.is
          (subst (λ path. AreLinks seen path (depth - 1) c.args.limited below) joined inner.holds));
      limited = added.limited c.args.limited before.limited inner.limited;
      counted = record {
        bytes =
            let v = added.size in
            let w = ap (λ r. r.bytes) added.read in
            let x = inner.counted.bytes in
            let y = read.bytes in
            let z = before.counted.bytes in
            omega (arith, v, w, x, y, z);
        entries =
            let v = added.count in
            let w = ap (λ r. r.entries) added.read in
            let x = inner.counted.entries in
            let y = read.entries in
            let z = before.counted.entries in
            omega (arith, v, w, x, y, z);
      };
      listed =
          let u = c.in-Some.ensures.steps.1 in
          let v = added.count in
          let w = ap (λ r. r.names) added.read in
          let x = inner.listed in
          let y = read.names in
          let z = before.listed in
          omega (arith, u, v, w, x, y, z);
      within = rw added.read inner.within;
    }
