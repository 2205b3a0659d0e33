use Rattle.it_command_checks.proofs.Schemes.{no_own_known}
use Rattle.it_command_checks.proofs.laws.lines_know_no_own_keys.Goals as goal

pub returns : goal.returns
returns c = no_own_known
