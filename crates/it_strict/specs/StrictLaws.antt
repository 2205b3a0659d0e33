-- What is proved about deliveries that are accepted with nothing found (in-toto 1.0 sections 4.3.3
-- and 5.2; FIPS 186-5, section 6.4).
use Rattle.std.specs.FinMap.{get}
use Rattle.std.specs.List.{slice_get}
use Rattle.std.specs.Prelude.{◌≡◌, ◌≢◌, ◌↔◌, ℕ, Contains, List, [], ◌++◌, Some}
use Rattle.it_digest.specs.Artifacts.{ArtifactMap}
use Rattle.it_digest.specs.Compare.{Agree}
use Rattle.it_digest.specs.DigestSet.{in_sha256, in_sha512}
use Rattle.it_digest.specs.Sums.{SumsOf}
use Rattle.it_digest.specs.declared.compare.DigestSet.{DigestSet}
use Rattle.it_dsse.specs.Panel.{Panel}
use Rattle.it_docs.specs.declared.rule.Rule.TheVariants.{Match}
use Rattle.it_docs.specs.declared.rule.Side.TheVariants.{Products}
use Rattle.it_docs.specs.declared.step.Step.{Step}
use Rattle.it_rules.specs.FolderPrefix.{folder_prefix}
use Rattle.it_rules.specs.Rules.{IsFree, IsMatch, Stands}
use Rattle.it_chain.specs.Chain.{holds_below}
use Rattle.it_chain.specs.Level.{StepHolds}
use Rattle.it_chain.specs.declared.chain.StepResult.{StepResult}
use Rattle.it_nonces.specs.declared.nonce_use.NonceUse.{NonceUse}
use Rattle.it_p256_limbs.specs.Numbers.{value_of}
use Rattle.it_verify.specs.Delivered.{delivery}
use Rattle.it_verify.specs.Documents.{setting_of}
use Rattle.it_verify.specs.Evidence.{evidence_links}
use Rattle.it_verify.specs.Made.{IsMadeBy}
use Rattle.it_verify.specs.declared.documents.Documents.{Documents}
use Rattle.it_verify.specs.declared.evidence.Evidence.{Evidence}
use Rattle.it_verify.specs.declared.inputs.Inputs.{Inputs}
use Rattle.it_strict.specs.Found.{AreFound, Found, IsNothing}
use Rattle.it_strict.specs.Nonces.{AreUsesIn}

-- the step at a place of the layout, and its record: the step holds with it, so that all that
-- counts for the step yields this record, and at least as many different keys as the step's
-- threshold says signed what counts
pub record IsStepWith (panel : Panel) (inputs : Inputs) (documents : Documents)
    (evidence : Evidence) (place : ℕ) (step : Step) (result : StepResult) : Type 0 where
  pub is_step : slice_get documents.layout.steps place ≡ Some step
  pub is_record : slice_get evidence.steps place ≡ Some result
  pub holds : StepHolds (holds_below (setting_of panel documents) inputs.depth)
      (setting_of panel documents) documents.layout inputs.links step result

-- a delivered file is a product of a step: the first rule of the policy that claims its path is a
-- MATCH WITH PRODUCTS FROM that step, whose pattern matches the path without the source prefix, and
-- the record of the step has, under the target prefix instead, a product whose digests agree with
-- those that are delivered
pub record IsTakenFrom (documents : Documents) (evidence : Evidence) (step : Step)
    (result : StepResult) (path : List ℕ) (digests : DigestSet) : Type 0 where
  pub place : ℕ
  pub pattern : List ℕ
  pub source : List ℕ
  pub target : List ℕ
  pub rest : List ℕ
  pub product : DigestSet
  pub is_rule : slice_get documents.policy.deliver place
      ≡ Some (Match pattern source Products target step.name)
  pub is_first : IsFree documents.policy.deliver Products (delivery documents.delivered)
      (evidence_links evidence) place path
  pub under_source : path ≡ folder_prefix source ++ rest
  pub is_match : IsMatch pattern rest
  pub is_product : get result.products (folder_prefix target ++ rest) ≡ Some product
  pub digests_agree : Agree digests product

-- some step of the layout, with its record, has the delivered file among its products
pub record IsProduct (panel : Panel) (inputs : Inputs) (documents : Documents)
    (evidence : Evidence) (path : List ℕ) (digests : DigestSet) : Type 0 where
  pub place : ℕ
  pub step : Step
  pub result : StepResult
  pub is_step : IsStepWith panel inputs documents evidence place step result
  pub is_taken : IsTakenFrom documents evidence step result path digests

-- where delivered files were made as the owners prescribed, and nothing is found, each delivered
-- file is a product of a step of the layout
abbrev pub DeliveredAreProducts : Type 0
DeliveredAreProducts =
    (panel : Panel) (inputs : Inputs) (documents : Documents) (evidence : Evidence) (found : Found)
    (path : List ℕ) (digests : DigestSet) → IsMadeBy panel inputs documents evidence
    → AreFound panel inputs documents evidence found → IsNothing found
    → get documents.delivered path ≡ Some digests
    → IsProduct panel inputs documents evidence path digests

-- where nothing is found, and neither of the two digest lists is empty, both name the same paths
abbrev pub ListsNameTheSame : Type 0
ListsNameTheSame =
    (panel : Panel) (inputs : Inputs) (documents : Documents) (evidence : Evidence) (found : Found)
    (by_sha256 by_sha512 : ArtifactMap) (path : List ℕ)
    → AreFound panel inputs documents evidence found → IsNothing found
    → inputs.sums ≢ [] → inputs.sums512 ≢ [] → SumsOf in_sha256 inputs.sums by_sha256
    → SumsOf in_sha512 inputs.sums512 by_sha512 → Stands by_sha256 path ↔ Stands by_sha512 path

-- of the signatures by ECDSA over P-256 that count, those with the same number r are by one key
pub record NoNonceIsShared (panel : Panel) (inputs : Inputs) (documents : Documents) : Type 0
  where
    pub uses : List NonceUse
    pub are_uses : AreUsesIn panel inputs documents uses
    pub by_one_key : (a b : NonceUse) → Contains uses a → Contains uses b
        → value_of a.r ≡ value_of b.r → a.key ≡ b.key

-- where nothing is found, no two different keys signed with one nonce
abbrev pub NoncesAreOfOneKey : Type 0
NoncesAreOfOneKey =
    (panel : Panel) (inputs : Inputs) (documents : Documents) (evidence : Evidence) (found : Found)
    → AreFound panel inputs documents evidence found → IsNothing found
    → NoNonceIsShared panel inputs documents
