-- By panels that are alike on the keys of the owners and builders, the same keys signed, and the
-- same provenance meets what is expected.
use Rattle.std.proofs.Common.{◌≡◌, ℕ, List, Some, Contains, inl, inr, ⊎_elim}
use Rattle.std.specs.FinMap.{get}
use Rattle.it_base.specs.Table.{Named}
use Rattle.it_digest.specs.declared.compare.DigestSet.{DigestSet}
use Rattle.it_dsse.specs.Panel.{Panel}
use Rattle.it_dsse.specs.Signed.{IsSigner}
use Rattle.it_dsse.specs.declared.envelope.Envelope.{Envelope}
use Rattle.it_dsse.specs.declared.key_object.KeyObject.{KeyObject}
use Rattle.it_docs.specs.Policy.{PolicyOf}
use Rattle.it_docs.specs.declared.policy.Builder.{Builder}
use Rattle.it_docs.specs.declared.policy.Expectation.{Expectation}
use Rattle.it_docs.specs.declared.policy.Policy.{Policy}
use Rattle.it_chain.specs.AlikePanels.{PanelsAlike}
use Rattle.it_chain.proofs.AlikePanels.{over_back, panels_back, signed_there}
use Rattle.it_prov.specs.Meets.{Meets, MeetsBesidesLevel}
use Rattle.it_prov.proofs.Greatest.{greatest_alike}
use Rattle.it_report.specs.declared.refusal.Refusal.{Refusal}
use Rattle.it_verify.specs.Owners.{OwnersSign}
use Rattle.it_verify.specs.PanelsAlike.{PanelsAlikeFor}
use Rattle.it_verify.specs.Provenance.{FileFails}
use Rattle.it_verify.specs.declared.inputs.Inputs.{Inputs}
use Rattle.it_verify.proofs.AlikeVerdicts.{HasLevel, fits_stands}

-- who signed by one panel signed by the other
pub signer_there : (panel other : Panel) (objects : Named KeyObject)
    → PanelsAlike panel other objects → (envelope : Envelope) (id : List ℕ) (object : KeyObject)
    → get objects id ≡ Some object → IsSigner panel envelope object id
    → IsSigner other envelope object id
signer_there panel other objects alike envelope id object known signed =
    signed_there panel other objects alike envelope id object signed.0 known signed.1

-- where every owner signed by one panel, every owner did by the other
pub owners_there : (panel other : Panel) (owners : Named KeyObject)
    → PanelsAlike panel other owners → (envelope : Envelope) → OwnersSign panel envelope owners
    → OwnersSign other envelope owners
owners_there panel other owners alike envelope sign id object known =
    signer_there panel other owners alike envelope id object known (sign id object known)

pub panels_for_back : (panel other : Panel) (inputs : Inputs) → PanelsAlikeFor panel other inputs
    → PanelsAlikeFor other panel inputs
panels_for_back panel other inputs alike = record {
  owners = λ policy is. panels_back panel other policy.owners (alike.owners policy is);
  builders = λ policy expectation builder is expected builds.
      panels_back panel other builder.keys
      (alike.builders policy expectation builder is expected builds);
  layouts = λ documents read sign.
      let owners = documents.policy.owners in
      let alike_back = panels_back panel other owners
      (alike.owners documents.policy read.policy) in
      over_back panel other inputs.depth documents.layout inputs.links
      (alike.layouts documents read
      (owners_there other panel owners alike_back documents.envelope sign));
}

module _ (panel other : Panel) (inputs : Inputs) (alike : PanelsAlikeFor panel other inputs)
    (policy : Policy) (is : PolicyOf inputs.policy policy) (expectation : Expectation)
    (digests : DigestSet) (expected : Contains policy.expectations expectation) where
  besides_there : (envelope : Envelope) (builder : Builder)
      → MeetsBesidesLevel panel expectation digests envelope builder
      → MeetsBesidesLevel other expectation digests envelope builder
  besides_there envelope builder m =
      let signed = signer_there panel other builder.keys
      (alike.builders policy expectation builder is expected m.is_expected) envelope m.signed.id
      m.signed.object m.signed.is_key (m.signed.key, m.signed.signed) in
      record {
        provenance = m.provenance;
        is_expected = m.is_expected;
        signed = record {
          id = m.signed.id;
          object = m.signed.object;
          key = signed.0;
          is_key = m.signed.is_key;
          signed = signed.1;
        };
        attests = m.attests;
        built_by = m.built_by;
        build_type = m.build_type;
        parameters = m.parameters;
      }

  pub meets_there : (envelope : Envelope) → Meets panel expectation digests envelope
      → Meets other expectation digests envelope
  meets_there envelope m = record {
    builder = m.builder;
    besides_level = besides_there envelope m.builder m.besides_level;
    level_is_enough = m.level_is_enough;
  }

  level_there : (level : ℕ) → HasLevel panel inputs expectation digests level
      → HasLevel other inputs expectation digests level
  level_there level h = (
    h.0,
    h.1,
    record {
      builder = h.2.builder;
      besides_level = besides_there h.0 h.2.builder h.2.besides_level;
      level_is = h.2.level_is;
    },
  )

module _ (panel other : Panel) (inputs : Inputs) (alike : PanelsAlikeFor panel other inputs) where
  back : PanelsAlikeFor other panel inputs
  back = panels_for_back panel other inputs alike

  pub file_fails_there : (policy : Policy) → PolicyOf inputs.policy policy
      → (file : List ℕ × DigestSet) (refusal : Refusal)
      → FileFails panel inputs policy.expectations file refusal
      → FileFails other inputs policy.expectations file refusal
  file_fails_there policy is file refusal =
      ⊎_elim inl
      (λ x.
      let expected = fits_stands policy.expectations file.0 x.0 x.2 in
      inr (
        x.0,
        x.1,
        x.2,
        λ envelope line m. x.3 envelope line
            (meets_there other panel inputs back policy is x.0 file.1 expected envelope m),
        greatest_alike (HasLevel panel inputs x.0 file.1) (HasLevel other inputs x.0 file.1)
            (level_there panel other inputs alike policy is x.0 file.1 expected)
            (level_there other panel inputs back policy is x.0 file.1 expected) x.1 x.4,
        x.5,
      ))
