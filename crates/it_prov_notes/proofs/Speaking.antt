-- Whether an envelope speaks of a file.
use Rattle.std.proofs.Common.{◌↔◌, Bool, Any, IsTrue, subst}
use Rattle.it_digest.specs.Compare.{Agree}
use Rattle.it_digest.specs.declared.compare.DigestSet.{DigestSet}
use Rattle.it_dsse.specs.declared.envelope.Envelope.{Envelope}
use Rattle.it_docs.specs.Statement.{StatementOf}
use Rattle.it_docs.specs.declared.statement.Statement.{Statement}
use Rattle.it_docs.proofs.Same.{statement_same}
use Rattle.it_prov_notes.specs.inside.Judged.{IsAbout}

-- the Statement that was read is the one that the payload is
pub about_by : (digests : DigestSet) (envelope : Envelope) (statement : Statement) (r : Bool)
    → StatementOf envelope.payload statement
    → (IsTrue r ↔ Any (λ subject. Agree subject digests) statement.subjects)
    → IsTrue r ↔ IsAbout digests envelope
about_by digests envelope statement r reads agrees = (
  λ h. (statement, reads, agrees.0 h),
  λ a. agrees.1 (subst (λ (s : Statement). Any (λ subject. Agree subject digests) s.subjects)
      (statement_same envelope.payload a.0 statement a.1 reads) a.2),
)
