use Rattle.it_prov_notes.proofs.statement.statement_misses.Goals as goal

pub returns : goal.returns
returns c = λ panel line envelope on are.
    c.provenance_misses.ensures panel c.args.delivery.now.digests line envelope
    (record { statement = c.args.statement.now; states = on; provenance_is = c.in-Some.is }) are
