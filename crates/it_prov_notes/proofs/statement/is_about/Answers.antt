use Rattle.std.proofs.Common.{◌↔◌, Any, IsTrue}
use Rattle.std.proofs.lemmas.Bool.{false≢true}
use Rattle.it_digest.specs.Compare.{Agree}
use Rattle.it_docs.specs.Statement.{StatementOf}
use Rattle.it_prov_notes.proofs.Speaking.{about_by}
use Rattle.it_prov_notes.proofs.statement.is_about.Goals as goal

pub returns-in-Some : goal.returns-in-Some
returns-in-Some c =
    let statement = c.in-Some.statement in
    let reads : StatementOf c.args.envelope.now.payload statement =
    rw (← c.as_slice.ensures) (rw c.in-Some.is at c.in_ok-statement.ensures) in
    let agrees : IsTrue c.some_agrees.result
    ↔ Any (λ subject. Agree subject c.args.digests.now) statement.subjects =
    rw (← c.as_slice-in-Some.ensures) c.some_agrees.ensures in
    about_by c.args.digests.now c.args.envelope.now statement c.some_agrees.result reads agrees

pub returns-in-None : goal.returns-in-None
returns-in-None c = (
  λ h. absurd (false≢true h),
  λ a. absurd ((rw c.in-None.is at c.in_ok-statement.ensures) a.0 (rw c.as_slice.ensures a.1)),
)
