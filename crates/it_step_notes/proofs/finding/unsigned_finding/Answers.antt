use Rattle.it_step_notes.proofs.finding.unsigned_finding.Goals as goal

pub returns : goal.returns
returns g c =
    rw c.from.ensures (record {
      unsigned = c.requires;
      others_are = c.in_ok-others.ensures;
    })
