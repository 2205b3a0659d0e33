use Rattle.std.proofs.Common.{ℕ, List, take}
use Rattle.std.specs.Io.KnownBytes.{Appends}
use Rattle.it_digest.specs.Sums.{algorithm_of}
use Rattle.it_file_commands.specs.Commands.{AreLinesOf}
use Rattle.it_file_commands.proofs.digest_command.digest_files.Given as goal

abbrev pub invariant-loop-file : goal.invariant-loop-file
invariant-loop-file g l = (text : List ℕ) × AreLinesOf (g.R.Disk.holdings l.rt)
    (algorithm_of l.algorithm) (take l.file-index l.files) text
    × Appends (g.W.Write.contents l.fn.out) (g.W.Write.contents l.out) text
