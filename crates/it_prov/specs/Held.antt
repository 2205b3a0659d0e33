-- What envelopes attest to those who trust the builders of some expectations (in-toto Attestation
-- Statement v1). Not reading what none of them signed is this profile's choice.
use Rattle.std.specs.Prelude.{◌≡◌, List, Option, MatchOption, Contains}
use Rattle.std.specs.List.{AllZip}
use Rattle.it_dsse.specs.Panel.{Panel}
use Rattle.it_dsse.specs.declared.envelope.Envelope.{Envelope}
use Rattle.it_docs.specs.PayloadType.{in_toto_type}
use Rattle.it_docs.specs.Statement.{StatementOf}
use Rattle.it_docs.specs.declared.policy.Builder.{Builder}
use Rattle.it_docs.specs.declared.policy.Expectation.{Expectation}
use Rattle.it_docs.specs.declared.statement.Statement.{Statement}
use Rattle.it_prov.specs.Answered.{AreAllAnswers}
use Rattle.it_prov.specs.Meets.{SignedByBuilder}
use Rattle.it_prov.specs.declared.attestations.Attestation.{Attestation}

-- a builder of one of the expectations signed the envelope
pub record SignedForOne (panel : Panel) (expectations : List Expectation) (envelope : Envelope)
    : Type 0 where
  pub expectation : Expectation
  pub builder : Builder
  pub is_expectation : Contains expectations expectation
  pub is_builder : Contains expectation.builders builder
  pub signed : SignedByBuilder panel envelope builder

-- an envelope of the in-toto type, which a builder of one of the expectations signed, has this
-- Statement as its payload
pub record IsHeld (panel : Panel) (expectations : List Expectation) (envelope : Envelope)
    (statement : Statement) : Type 0 where
  pub type_is : envelope.payload_type ≡ in_toto_type
  pub signed : SignedForOne panel expectations envelope
  pub reads : StatementOf envelope.payload statement

-- what an envelope attests: its Statement, and which builders signed it
pub record IsAttested (panel : Panel) (expectations : List Expectation) (envelope : Envelope)
    (attestation : Attestation) : Type 0 where
  pub held : IsHeld panel expectations envelope attestation.statement
  pub answers : AreAllAnswers panel envelope expectations attestation.answers

-- what an envelope attests, or none where it holds no such Statement
abbrev pub HoldsOrNone : Panel → List Expectation → Envelope → Option Attestation → Type 0
HoldsOrNone panel expectations envelope found =
    MatchOption found ((statement : Statement) → ¬ IsHeld panel expectations envelope statement)
    (IsAttested panel expectations envelope)

-- in their order, what each envelope attests
abbrev pub AreHeld : Panel → List Expectation → List Envelope → List (Option Attestation) → Type 0
AreHeld panel expectations = AllZip (HoldsOrNone panel expectations)
