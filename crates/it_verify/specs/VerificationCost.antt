-- The most validity checks that a verification counts (specific to this project; no standard covers
-- it).
use Rattle.std.specs.FinMap.{keys, len}
use Rattle.std.specs.Prelude.{◌≡◌, ℕ, List, ◌+◌, ◌*◌, length}
use Rattle.it_base.specs.Sum.{CostsIfFound, IsSum}
use Rattle.it_digest.specs.Sums.{lines_of}
use Rattle.it_dsse.specs.Envelope.{EnvelopeOf}
use Rattle.it_dsse.specs.Panel.{Panel}
use Rattle.it_dsse.specs.declared.envelope.Envelope.{Envelope}
use Rattle.it_docs.specs.Policy.{PolicyOf}
use Rattle.it_docs.specs.declared.policy.Expectation.{Expectation}
use Rattle.it_docs.specs.declared.policy.Policy.{Policy}
use Rattle.it_chain.specs.Cost.{ChainCosts, HasSignatures}
use Rattle.it_prov.specs.Cost.{key_count}
use Rattle.it_prov.specs.Fits.{Fits}
use Rattle.it_verify.specs.Documents.{Documents, ReadAs, setting_of}
use Rattle.it_verify.specs.declared.inputs.Inputs.{Inputs}

-- a policy and an envelope that the inputs read as
abbrev pub AreOwners : Inputs → Policy × Envelope → Type 0
AreOwners inputs (policy, envelope) =
    PolicyOf inputs.policy policy × EnvelopeOf inputs.layout envelope

-- the owners cost one check per owner and signature of the layout
abbrev pub OwnersCost : Inputs → ℕ → Type 0
OwnersCost inputs =
    CostsIfFound (AreOwners inputs) (λ read n. n ≡ len read.0.owners * length read.1.signatures)

-- how many signatures are in the lines of the provenance that read as envelopes
abbrev pub LinesHave : Inputs → ℕ → Type 0
LinesHave inputs =
    IsSum (λ line. CostsIfFound (EnvelopeOf line) HasSignatures) (lines_of inputs.provenance)

-- a delivered file costs one check per key of the expected builders and signature
abbrev pub FileCosts : List Expectation → ℕ → List ℕ → ℕ → Type 0
FileCosts expectations signatures path =
    CostsIfFound (Fits expectations path)
    (λ expectation n. n ≡ key_count expectation.builders * signatures)

-- what the layout costs over the links
abbrev pub LinksCost : Panel → Inputs → Documents → ℕ → Type 0
LinksCost panel inputs documents =
    ChainCosts (setting_of panel documents) inputs.depth documents.layout inputs.links

-- what the delivered files cost, with this many signatures
abbrev pub FilesCost : Documents → ℕ → ℕ → Type 0
FilesCost documents signatures =
    IsSum (FileCosts documents.policy.expectations signatures) (keys documents.delivered)

-- what a verification costs: the sum of what the owners cost, what the layout costs over the links,
-- and what the delivered files cost
pub record VerificationCosts (panel : Panel) (inputs : Inputs) (n : ℕ) : Type 0 where
  pub owners : ℕ
  pub links : ℕ
  pub signatures : ℕ
  pub files : ℕ
  pub of_owners : OwnersCost inputs owners
  pub of_links : CostsIfFound (ReadAs inputs) (LinksCost panel inputs) links
  pub of_lines : LinesHave inputs signatures
  pub of_files : CostsIfFound (ReadAs inputs) (λ documents. FilesCost documents signatures) files
  pub sum : n ≡ owners + links + files
