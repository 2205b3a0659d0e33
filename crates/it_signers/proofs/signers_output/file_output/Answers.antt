use Rattle.std.proofs.Common.{inr}
use Rattle.std.proofs.lemmas.Result.{IfOk-weaker}
use Rattle.it_signers.proofs.signers_output.file_output.Goals as goal

pub returns-in-None : goal.returns-in-None
returns-in-None g c =
    IfOk-weaker c.no_envelope_output.result _ _
    (λ output h. inr (record {
      none = rw c.in-None.is at c.in_ok-envelope.ensures;
      text_is = h.0;
      status_is = h.1;
    })) c.no_envelope_output.ensures
