use Rattle.it_verify.proofs.inspections.link_named.Goals as goal

pub returns-in-None : goal.returns-in-None
returns-in-None c = record {
  link = λ link named. (rw c.in-None.is at c.in_ok-link.ensures) link named.0;
}
