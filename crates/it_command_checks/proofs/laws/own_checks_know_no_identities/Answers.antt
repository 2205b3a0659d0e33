use Rattle.it_command_checks.proofs.Schemes.{no_identity_known}
use Rattle.it_command_checks.proofs.laws.own_checks_know_no_identities.Goals as goal

pub returns : goal.returns
returns c = no_identity_known
