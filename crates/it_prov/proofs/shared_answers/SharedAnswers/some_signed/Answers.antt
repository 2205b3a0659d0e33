use Rattle.it_prov.proofs.shared_answers.SharedAnswers.some_signed.Goals as goal

pub returns : goal.returns
returns c = rw (← c.self.view_is) c.self.invariant
