use Rattle.std.proofs.Common.{map, take}
use Rattle.std.specs.List.{AllZip}
use Rattle.it_key_commands.specs.KeyFile.{IsKeyFile}
use Rattle.it_key_commands.proofs.key_output.objects_in.Given as goal

abbrev pub invariant-loop-place : goal.invariant-loop-place
invariant-loop-place l =
    AllZip IsKeyFile (map (λ file. file.now) (take l.place l.files)) l.objects.items
