use Rattle.std.proofs.Common.{map, take}
use Rattle.it_dsse.specs.Signed.{AreThose}
use Rattle.it_sublayouts.specs.inside.Signed.{IsLayoutFile}
use Rattle.it_sublayouts.proofs.Files.{shown}
use Rattle.it_sublayouts.proofs.layout_files.layout_files.Given as goal

-- those of the files so far that are layouts
abbrev pub invariant-loop-file : goal.invariant-loop-file
invariant-loop-file l =
    AreThose IsLayoutFile (take l.file-index l.files) (map shown l.kept.items)
