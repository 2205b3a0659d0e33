-- Who signed an envelope, once the signers are known.
use Rattle.std.proofs.Common.{ℕ, List}
use Rattle.it_dsse.specs.Panel.{Panel}
use Rattle.it_dsse.specs.Signed.{AreThose, IsSigner}
use Rattle.it_dsse.specs.declared.envelope.Envelope.{Envelope}
use Rattle.it_commands.specs.SignedOutput.{ListsNames, NamesSigners, ring_object}
use Rattle.it_outcome.specs.declared.outcome.Status.{Status}
use Rattle.it_commands.proofs.Those.{any_kept, kept_any}

-- a text that lists the signers names them
pub names_signers : (panel : Panel) (ids : List (List ℕ)) (envelope : Envelope)
    (signers : List (List ℕ)) (text : List ℕ) (status : Status)
    → AreThose (IsSigner panel envelope ring_object) ids signers → ListsNames signers text status
    → NamesSigners panel ids envelope text status
names_signers panel ids envelope signers text status those lists = record {
  signers = signers;
  are_those = those;
  text_is = lists.text_is;
  good = (
    λ good. any_kept (IsSigner panel envelope ring_object) ids signers those (lists.good.0 good),
    λ some. lists.good.1 (kept_any (IsSigner panel envelope ring_object) ids signers those some),
  );
}
