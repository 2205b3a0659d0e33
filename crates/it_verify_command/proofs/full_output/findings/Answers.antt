use Rattle.std.proofs.Common.{subst, IfSome}
use Rattle.std.proofs.lemmas.Result.{IfOk-weaker}
use Rattle.it_notes.specs.FoundInDocuments.{AreFoundInDocuments}
use Rattle.it_verify_command.proofs.Accepting.{for_any}
use Rattle.it_verify_command.proofs.full_output.findings.Goals as goal

pub returns-in-Accepted-Some : goal.returns-in-Accepted-Some
returns-in-Accepted-Some c = λ panel inputs told.
    IfOk-weaker c.shown_in_documents.result _ _ (λ findings is. for_any _ c.args.told.now.verdict (record {
      found = c.in-Accepted-Some.found;
      are_found = subst (λ f. IfSome f (AreFoundInDocuments panel inputs)) c.in-Accepted-Some.is-1
          told.found;
      are_shown = is;
    })) c.shown_in_documents.ensures
