use Rattle.std.proofs.Common.{◌≡◌, map, take, string_bytes}
use Rattle.it_commands.specs.SignedOutput.{names_text}
use Rattle.it_commands.proofs.signed_output.names_text.Given as goal

abbrev pub invariant-loop-name : goal.invariant-loop-name
invariant-loop-name l = l.text.items ≡ names_text (map string_bytes (take l.name-index l.names))
