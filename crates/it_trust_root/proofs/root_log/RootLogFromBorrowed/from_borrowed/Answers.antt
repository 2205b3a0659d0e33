use Rattle.it_borrowed.specs.Tree.{as_data}
use Rattle.it_trust_root.proofs.Logs.{log_found}
use Rattle.it_trust_root.proofs.root_log.RootLogFromBorrowed.from_borrowed.Goals as goal

pub returns : goal.returns
returns c = log_found (as_data c.args.value.now) c.in-Some.listed c.log_of.result
    (rw c.in-Some.is at c.in_ok-listed.ensures) c.log_of.ensures
