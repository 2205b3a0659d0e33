use Rattle.std.proofs.Common.{◌≡◌, drop}
use Rattle.it_key_commands.specs.SignatureFlaw.{shortest}
use Rattle.it_key_commands.proofs.two_numbers.shortest.Given as goal

abbrev pub invariant-loop-place : goal.invariant-loop-place
invariant-loop-place l = shortest l.number ≡ shortest (drop l.place l.number)
