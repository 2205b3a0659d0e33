use Rattle.std.proofs.Common.{◌≡◌, map, take}
use Rattle.it_file_commands.proofs.key_command.slices.Given as goal

abbrev pub invariant-loop-file : goal.invariant-loop-file
invariant-loop-file l = map (λ slice. slice.now) l.slices.items ≡ take l.file-index l.files
