use Rattle.std.proofs.Common.{◌≡◌, take}
use Rattle.it_key_commands.specs.KeyFile.{without_returns}
use Rattle.it_key_commands.proofs.key_file.lines_of.Given as goal

abbrev pub invariant-loop-byte : goal.invariant-loop-byte
invariant-loop-byte l = l.lines.items ≡ without_returns (take l.byte-index l.file)
