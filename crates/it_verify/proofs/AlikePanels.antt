-- By panels that are alike on every key that could be asked for, inputs have the same verdict, and
-- the same report.
use Rattle.std.proofs.Common.{◌↔◌, ℕ, List, [], ◌∷◌, Contains, inl, inr, refl}
use Rattle.std.specs.FinMap.{entries}
use Rattle.std.specs.List.{AllByRecursion}
use Rattle.it_base.specs.Places.{NoneAt}
use Rattle.it_base.proofs.Firsts.{first_alike}
use Rattle.it_dsse.specs.Panel.{Panel}
use Rattle.it_dsse.specs.declared.envelope.Envelope.{Envelope}
use Rattle.it_dsse.specs.declared.key_object.KeyObject.{KeyObject}
use Rattle.it_docs.specs.Policy.{PolicyOf}
use Rattle.it_docs.specs.declared.policy.Policy.{Policy}
use Rattle.it_chain.specs.Alike.{HasSameOutcome as ChainsCome}
use Rattle.it_chain.proofs.AlikePanels.{alike_panel_chains}
use Rattle.it_chain.proofs.Entries.{entry_known}
use Rattle.it_outcome.specs.declared.outcome.Status.{Status}
use Rattle.it_report.specs.declared.refusal.Refusal.{Refusal}
use Rattle.it_report.specs.declared.verdict.Verdict.{Verdict}
use Rattle.it_report.specs.declared.verdict.Verdict.TheVariants.{Accepted, Refused}
use Rattle.it_verify.specs.Documents.{Documents, ReadAs, setting_of}
use Rattle.it_verify.specs.Evidence.{Evidence, IsEvidence}
use Rattle.it_verify.specs.Made.{IsMadeBy}
use Rattle.it_verify.specs.Owners.{OwnerLacks, OwnersSign}
use Rattle.it_verify.specs.PanelsAlike.{PanelsAlikeFor}
use Rattle.it_verify.specs.Provenance.{FileFails}
use Rattle.it_verify.specs.RefusedFor.{FailsAt, Stage, at_policy, at_sums, at_moment, at_files}
use Rattle.it_verify.specs.RefusedFor.{at_envelope, at_payload_type, at_owners, at_layout, at_links}
use Rattle.it_verify.specs.RefusedFor.{at_records, at_inspections, at_deliver, at_provenance}
use Rattle.it_verify.specs.Verdict.{IsVerdict}
use Rattle.it_verify.specs.VerificationLaws.{HasSameOutcome}
use Rattle.it_verify.specs.VerifyOutput.{IsVerifyOutput}
use Rattle.it_verify.specs.declared.inputs.Inputs.{Inputs}
use Rattle.it_verify.proofs.AlikeProvenance.{file_fails_there, meets_there, owners_there}
use Rattle.it_verify.proofs.AlikeProvenance.{panels_for_back, signer_there}
use Rattle.it_verify.proofs.AlikeVerdicts.{fits_stands}
use Rattle.it_verify.proofs.Documented.{owners_or}
use Rattle.it_verify.proofs.FirstsAlike.{SameAt, first_alike_behind}

-- the stages up to that of the owners, and those behind it
abbrev early : List Stage
early =
    at_policy ∷ at_sums ∷ at_moment ∷ at_files ∷ at_envelope ∷ at_payload_type ∷ at_owners ∷ []

abbrev later : List Stage
later = at_layout ∷ at_links ∷ at_records ∷ at_inspections ∷ at_deliver ∷ at_provenance ∷ []

module _ (panel : Panel) (inputs : Inputs) where
  -- every owner signed the layout, where there are documents
  abbrev AreSigned : Type 0
  AreSigned = (documents : Documents) → ReadAs inputs documents
      → OwnersSign panel documents.envelope documents.policy.owners

  signed_where_clear : NoneAt (FailsAt panel inputs) early → AreSigned
  signed_where_clear clear documents read =
      elim (owners_or panel inputs documents.envelope read.envelope documents.policy
      read.policy) [
        | inl found ↦ absurd (clear.1.1.1.1.1.1.0 found.0 found.1)
        | inr sign ↦ sign.0
      ]

-- ---- the stages of a verification
module _ (panel other : Panel) (inputs : Inputs) (alike : PanelsAlikeFor panel other inputs) where
  chains : (documents : Documents) → ReadAs inputs documents
      → OwnersSign panel documents.envelope documents.policy.owners
      → ChainsCome inputs.depth documents.layout (setting_of panel documents) inputs.links
      (setting_of other documents) inputs.links
  chains documents read sign =
      alike_panel_chains (setting_of panel documents) (setting_of other documents) inputs.depth
      documents.layout inputs.links refl (alike.layouts documents read sign)

  evidence_there : (documents : Documents) (evidence : Evidence) → ReadAs inputs documents
      → OwnersSign panel documents.envelope documents.policy.owners
      → IsEvidence panel inputs documents evidence → IsEvidence other inputs documents evidence
  evidence_there documents evidence read sign is = record {
    steps = ((chains documents read sign).chain evidence.steps).0 is.steps;
    inspections = is.inspections;
  }

module _ (panel other : Panel) (inputs : Inputs) (alike : PanelsAlikeFor panel other inputs) where
  back : PanelsAlikeFor other panel inputs
  back = panels_for_back panel other inputs alike

  lacks_there : (policy : Policy) → PolicyOf inputs.policy policy → (envelope : Envelope)
      (owner : List ℕ × KeyObject) → Contains (entries policy.owners) owner → (refusal : Refusal)
      → OwnerLacks panel envelope owner refusal → OwnerLacks other envelope owner refusal
  lacks_there policy is envelope owner c refusal lacks = (
    λ signs. lacks.0 (signer_there other panel policy.owners (back.owners policy is) envelope
        owner.0 owner.1 (entry_known policy.owners owner c) signs),
    lacks.1,
  )

module _ (panel other : Panel) (inputs : Inputs) (alike : PanelsAlikeFor panel other inputs) where
  here : PanelsAlikeFor other panel inputs
  here = panels_for_back panel other inputs alike

  at_owners_there : (refusal : Refusal) → FailsAt panel inputs at_owners refusal
      → FailsAt other inputs at_owners refusal
  at_owners_there refusal x = (
    x.0,
    x.1,
    x.2,
    x.3,
    first_alike (OwnerLacks panel x.1) (OwnerLacks other x.1) (entries x.0.owners)
        (lacks_there panel other inputs alike x.0 x.2 x.1)
        (lacks_there other panel inputs here x.0 x.2 x.1) refusal x.4,
  )

  stage_there : AreSigned panel inputs → (stage : Stage) (refusal : Refusal)
      → FailsAt panel inputs stage refusal → FailsAt other inputs stage refusal
  stage_there sign at_policy refusal x = x
  stage_there sign at_sums refusal x = x
  stage_there sign at_moment refusal x = x
  stage_there sign at_files refusal x = x
  stage_there sign at_envelope refusal x = x
  stage_there sign at_payload_type refusal x = x
  stage_there sign at_owners refusal x = at_owners_there refusal x
  stage_there sign at_layout refusal x = x
  stage_there sign at_links refusal x = (
    x.0,
    x.1,
    x.2,
    ((chains panel other inputs alike x.0 x.2 (sign x.0 x.2)).first x.1).0 x.3,
    x.4,
  )
  stage_there sign at_records refusal x = x
  stage_there sign at_inspections refusal x = (
    x.0,
    x.1,
    x.2,
    evidence_there panel other inputs alike x.0 x.1 x.2 (sign x.0 x.2) x.3,
    x.4,
  )
  stage_there sign at_deliver refusal x = (
    x.0,
    x.1,
    x.2,
    evidence_there panel other inputs alike x.0 x.1 x.2 (sign x.0 x.2) x.3,
    x.4,
  )
  stage_there sign at_provenance refusal x = (
    x.0,
    x.1,
    first_alike (FileFails panel inputs x.0.policy.expectations)
        (FileFails other inputs x.0.policy.expectations) (entries x.0.delivered)
        (λ file c. file_fails_there panel other inputs alike x.0.policy x.1.policy file)
        (λ file c. file_fails_there other panel inputs here x.0.policy x.1.policy file) refusal x.2,
  )

  made_there : (documents : Documents) (evidence : Evidence)
      → IsMadeBy panel inputs documents evidence → IsMadeBy other inputs documents evidence
  made_there documents evidence made =
      let policy = documents.policy in
      let reads = made.read.policy in
      record {
        read = made.read;
        some_file = made.some_file;
        owners = owners_there panel other policy.owners (alike.owners policy reads)
            documents.envelope made.owners;
        is_evidence = evidence_there panel other inputs alike documents evidence made.read
            made.owners made.is_evidence;
        inspection_rules = made.inspection_rules;
        deliver_rules = made.deliver_rules;
        provenance = λ path digests known.
            let has = made.provenance path digests known in
            record {
              expectation = has.expectation;
              envelope = has.envelope;
              fits = has.fits;
              is_line = has.is_line;
              meets = meets_there panel other inputs alike policy reads has.expectation digests
                  (fits_stands policy.expectations path has.expectation has.fits) has.envelope
                  has.meets;
            };
      }

module _ (panel other : Panel) (inputs : Inputs) (alike : PanelsAlikeFor panel other inputs) where
  and_back : PanelsAlikeFor other panel inputs
  and_back = panels_for_back panel other inputs alike

  early_same : AllByRecursion (SameAt (FailsAt panel inputs) (FailsAt other inputs)) early
  early_same =
      let stays : (At : Refusal → Type 0) (r : Refusal) → At r ↔ At r = λ At r. (λ x. x, λ x. x) in
      let owners : SameAt (FailsAt panel inputs) (FailsAt other inputs) at_owners = λ refusal. (
        at_owners_there panel other inputs alike refusal,
        at_owners_there other panel inputs and_back refusal,
      ) in
      (stays _, (stays _, (stays _, (stays _, (stays _, (stays _, (owners, tt)))))))

  verdict_there : (verdict : Verdict) → IsVerdict panel inputs verdict
      → IsVerdict other inputs verdict
  verdict_there (Accepted steps files) x =
      (x.0, x.1, made_there panel other inputs alike x.0 x.1 x.2, x.3)
  verdict_there (Refused refusal) x =
      first_alike_behind (FailsAt panel inputs) (FailsAt other inputs) early later early_same
      (λ clear. stage_there panel other inputs alike (signed_where_clear panel inputs clear))
      (λ clear. stage_there other panel inputs and_back (signed_where_clear other inputs clear))
      refusal x

  output_there : (text : List ℕ) (status : Status) → IsVerifyOutput panel inputs text status
      → IsVerifyOutput other inputs text status
  output_there text status x = record {
    verdict = x.verdict;
    is_verdict = verdict_there x.verdict x.is_verdict;
    text_is =
        x.text_is;
    status_is = x.status_is;
  }

-- by alike panels inputs come to the same
pub alike_panels : (panel other : Panel) (inputs : Inputs) → PanelsAlikeFor panel other inputs
    → HasSameOutcome panel inputs other inputs
alike_panels panel other inputs alike =
    let back = panels_for_back panel other inputs alike in
    record {
      verdict = λ verdict. (
        verdict_there panel other inputs alike verdict,
        verdict_there other panel inputs back verdict,
      );
      report = λ text status. (
        output_there panel other inputs alike text status,
        output_there other panel inputs back text status,
      );
    }
