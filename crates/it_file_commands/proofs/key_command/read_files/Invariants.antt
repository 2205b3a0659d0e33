use Rattle.std.proofs.Common.{take}
use Rattle.std.specs.List.{AllZip}
use Rattle.it_file_commands.proofs.key_command.read_files.Given as goal

abbrev pub invariant-loop-path : goal.invariant-loop-path
invariant-loop-path g l =
    AllZip (g.R.Disk.holdings l.rt).file (take l.path-index l.paths) l.files.items
