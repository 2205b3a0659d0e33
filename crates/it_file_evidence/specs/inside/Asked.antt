-- What is asked about an envelope. Nothing here is trusted.
use Rattle.std.specs.Prelude.{Option, option_map}
use Rattle.it_json_report.specs.declared.evidence.Signer.{Signer}
use Rattle.it_vouched.specs.declared.vouched.Vouched.{Vouched}
use Rattle.it_file_evidence.specs.Signer.{first_answer, object_signing, signer_of}
use Rattle.it_file_evidence.specs.declared.signer.Asked.{Asked}

-- who signed what is asked about, where a line vouches for it
abbrev pub signer_asked : Asked → Vouched → Option Signer
signer_asked asked v =
    option_map (signer_of v.time)
    (first_answer (object_signing asked.builders.now asked.id.now asked.message.now v)
    asked.signatures.now)
