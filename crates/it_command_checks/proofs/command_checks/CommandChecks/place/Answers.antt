use Rattle.std.proofs.Common.{arith}
use Rattle.it_command_checks.proofs.Places.{counted}
use Rattle.it_command_checks.proofs.command_checks.CommandChecks.place.Goals as goal

pub returns : goal.returns
returns c =
    counted c.args.self.now.own.rings.items c.args.self.now.own.public_keys c.from.result _
    c.from.ensures (omega arith)
