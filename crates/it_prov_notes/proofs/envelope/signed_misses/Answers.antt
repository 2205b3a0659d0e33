use Rattle.std.proofs.Common.{ℕ, List, IfSome, subst}
use Rattle.it_docs.specs.Statement.{StatementOf}
use Rattle.it_prov_notes.specs.ProvenanceNotes.{IsDocumentThat, IsTyped}
use Rattle.it_prov_notes.proofs.envelope.signed_misses.Goals as goal

pub returns-in-Some : goal.returns-in-Some
returns-in-Some c = λ panel line reads are.
    let says : StatementOf c.args.envelope.now.payload c.in-Some.statement =
    rw (← c.as_slice-payload.ensures) (rw c.in-Some.is at c.in_ok-statement.ensures) in
    c.statement_misses.ensures panel line c.args.envelope.now
    (record { is_line = reads; reads = says }) are

pub returns-in_ok-type_in-in-None : goal.returns-in_ok-type_in-in-None
returns-in_ok-type_in-in-None c = λ panel line reads are. (
  c.args.envelope.now,
  reads,
  record {
    none = λ statement says. (rw c.in-None.is at c.in_ok-statement.ensures) statement
        (rw c.as_slice-payload.ensures says);
    type_is = subst (λ (bytes : List ℕ).
        IfSome c.in_ok-type_in-in-None.field-0
        (λ text. IsDocumentThat (IsTyped text) bytes))
        c.as_slice-payload.ensures c.in_ok-type_in-in-None.ensures;
  },
)
