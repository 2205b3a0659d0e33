use Rattle.std.proofs.Common.{take}
use Rattle.it_files_below.specs.FilesBelow.{AreFilesAtEach}
use Rattle.it_files_below.proofs.files_below.files_at_each.Given as goal

-- the files of the paths so far
abbrev pub invariant-loop-path : goal.invariant-loop-path
invariant-loop-path g l = AreFilesAtEach (g.R.Disk.holdings l.rt) (take l.path-index l.paths)
    l.files.items
