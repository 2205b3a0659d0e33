use Rattle.it_chain.proofs.Candidates.{no_body}
use Rattle.it_chain.proofs.body.body_of.Goals as goal

pub returns-in_default : goal.returns-in_default
returns-in_default c = no_body c.args.step.now c.args.text.now
    (rw c.in-None.is at c.in_ok-link.ensures) (rw c.in_default.is at c.in_ok-layout-in-None.ensures)
