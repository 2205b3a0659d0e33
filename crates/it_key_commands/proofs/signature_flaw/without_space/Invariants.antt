use Rattle.std.proofs.Common.{◌≡◌, take}
use Rattle.it_key_commands.specs.SignatureFlaw.{without_space}
use Rattle.it_key_commands.proofs.signature_flaw.without_space.Given as goal

abbrev pub invariant-loop-byte : goal.invariant-loop-byte
invariant-loop-byte l = l.digits.items ≡ without_space (take l.byte-index l.text)
