-- What is proved about these definitions.
use Rattle.std.specs.Prelude.{◌≡◌, ℕ, List, [], ◌∷◌, Some, Any}
use Rattle.it_docs.specs.declared.policy.Builder.{Builder}
use Rattle.it_dsse.specs.Panel.{panel_of}
use Rattle.it_dsse.specs.declared.envelope.Envelope.{Envelope}
use Rattle.it_json_report.specs.declared.evidence.Signer.{Signer}
use Rattle.it_prov.specs.Meets.{SignedByBuilder}
use Rattle.it_vouched.specs.Check.{vouched_check}
use Rattle.it_vouched.specs.declared.vouched.Vouched.{Vouched}
use Rattle.it_file_evidence.specs.Signer.{signer_among}

-- where lines name who signed an envelope for the builders of an id, one of these signed it by the
-- check of what the lines vouch for
abbrev pub SignerHasSigned : Type 0
SignerHasSigned = (vouched : List Vouched) (builders : List Builder) (id : List ℕ)
    (envelope : Envelope) (signer : Signer)
    → signer_among vouched builders id envelope ≡ Some signer
    → Any (λ builder. (builder.id ≡ id)
    × SignedByBuilder (panel_of (vouched_check vouched ∷ [])) envelope builder) builders
