use Rattle.it_prov_notes.proofs.provenance.parameters_miss.Goals as goal

pub returns-in_default : goal.returns-in_default
returns-in_default c = λ panel digests line envelope on are.
    c.in_ok-found.ensures panel digests line envelope on
