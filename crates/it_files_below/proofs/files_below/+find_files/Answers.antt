use Rattle.std.proofs.Common.{◌≡◌, ◌∙◌, ◌+◌, ◌∷◌, ◌++◌, [], ap, append-nil, map, string_bytes}
use Rattle.std.proofs.Common.{sym, take}
use Rattle.std.proofs.lemmas.List.{take_more}
use Rattle.it_files_below.specs.FilesBelow.{nothing, path_in}
use Rattle.it_files_below.proofs.FilesFound.{added_more, with_file, with_folder}
use Rattle.it_files_below.proofs.files_below.+find_files.Goals as goal
use Rattle.it_files_below.proofs.files_below.+find_files.Goals.{in-File+in_ok-add_file-in-File}
use Rattle.it_files_below.proofs.files_below.+find_files.Goals.{in-Folder+in-Some+in_ok-find_files-in-Folder}

pub loop-entry-init : goal.loop-entry-init
loop-entry-init g t c = ([], nothing, sym (append-nil _))

pub loop-entry-preserved : goal.loop-entry-preserved
loop-entry-preserved g t c =
    let entries = c.as_slice-entry-items.result.now in
    let i = c.loop-entry.entry-index in
    let entry = c.entry-item.result in
    let before = c.loop-entry.invariant in
    let more : take (i + 1) entries ≡ take i entries ++ entry ∷ [] =
    take_more entries i entry c.loop-entry-test.true
    ∙ ap (λ x. take i entries ++ x ∷ []) (sym c.entry-item.is) in
    let path = string_bytes c.in_ok-path.path in
    let named : path ≡ path_in c.args.folder.now entry.name = c.in_ok-path.ensures
    ∙ ap (path_in c.args.folder.now) c.as_str.ensures in
    elim c.match-entry.branch [
      | in-File+in_ok-add_file-in-File w ↦ (
        before.0 ++ path ∷ [],
        with_file (g.R.Disk.holdings c.args.rt.now) c.args.folder.now path (take i entries)
            (take (i + 1) entries) entry before.0 more named before.1 w.in-File.is,
        added_more (map string_bytes c.args.files.now.items)
            (map string_bytes c.loop-entry.files.items) _ before.0 (path ∷ []) before.2
            (rw w.files-is w.in_ok-add_file-in-File.ensures),
      )
      | in-Folder+in-Some+in_ok-find_files-in-Folder w ↦
          let below = w.in_ok-find_files-in-Folder.ensures in
          let holds = rw w.as_str-in-Folder.ensures.value at below.1 in (
            before.0 ++ below.0,
            with_folder (g.R.Disk.holdings c.args.rt.now) c.args.folder.now path (take i entries)
                (take (i + 1) entries) entry before.0 more named before.1 below.0 w.in-Folder.is
                holds,
            added_more (map string_bytes c.args.files.now.items)
                (map string_bytes c.loop-entry.files.items) _ before.0 below.0 before.2
                (rw w.files-is below.2),
          )
    ]
