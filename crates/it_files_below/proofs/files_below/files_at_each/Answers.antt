use Rattle.std.proofs.Common.{◌≡◌, ◌∙◌, ◌+◌, ◌∷◌, ◌++◌, [], ap, subst, sym, take}
use Rattle.std.proofs.lemmas.List.{take_all, take_more}
use Rattle.it_files_below.specs.FilesBelow.{AreFilesAtEach, and_path, no_path}
use Rattle.it_files_below.proofs.files_below.files_at_each.Goals as goal

pub loop-path-init : goal.loop-path-init
loop-path-init g c = rw c.new-files.ensures.items no_path

pub loop-path-preserved : goal.loop-path-preserved
loop-path-preserved g c =
    let paths = c.args.paths.now in
    let i = c.loop-path.path-index in
    let path = c.path-item.result in
    let more : take (i + 1) paths ≡ take i paths ++ path ∷ [] =
    take_more paths i path c.loop-path-test.true
    ∙ ap (λ x. take i paths ++ x ∷ []) (sym c.path-item.is) in
    let files = rw c.as_str.ensures at c.in_ok-files_at.ensures in
    rw (c.in_ok-add_texts.ensures, more) (and_path c.loop-path.invariant path files)

pub returns : goal.returns
returns g c =
    subst (λ paths. AreFilesAtEach (g.R.Disk.holdings c.args.rt.now) paths c.loop-path.files.items)
    (take_all c.loop-path.path-index c.args.paths.now c.loop-path-test.false)
    c.loop-path.invariant
