-- Inputs in which the same counts have the same verdict, and the same report.
use Rattle.std.proofs.Common.{◌↔◌, ℕ, List, ◌∷◌, Option, Contains, inl, inr, refl, sym, subst}
use Rattle.std.proofs.Common.{⊎_elim}
use Rattle.std.specs.FinMap.{entries}
use Rattle.std.proofs.lemmas.List.Elements.{Contains-append_right}
use Rattle.it_base.proofs.Members.{in_head}
use Rattle.it_base.proofs.Firsts.{first_alike}
use Rattle.it_digest.specs.declared.compare.DigestSet.{DigestSet}
use Rattle.it_dsse.specs.Panel.{Panel}
use Rattle.it_dsse.specs.declared.envelope.Envelope.{Envelope}
use Rattle.it_docs.specs.Statement.{StatementOf}
use Rattle.it_docs.specs.declared.policy.Builder.{Builder}
use Rattle.it_docs.specs.declared.policy.Expectation.{Expectation}
use Rattle.it_chain.specs.Alike.{ChainAlike, HasSameOutcome as ChainsCome}
use Rattle.it_chain.specs.Chain.{Chain}
use Rattle.it_chain.specs.First.{FirstChainFailure as ChainFirst}
use Rattle.it_chain.proofs.Alikes.{alike_chains}
use Rattle.it_chain.proofs.Zips.{zip_weaker}
use Rattle.it_prov.specs.Best.{IsBest, MeetsAtLevel}
use Rattle.it_prov.specs.Fits.{Fits}
use Rattle.it_prov.specs.Meets.{Meets, MeetsBesidesLevel}
use Rattle.it_prov.proofs.Greatest.{greatest_alike}
use Rattle.it_verify.specs.InputsAlike.{InputsAlike, IsAttested}
use Rattle.it_verify.specs.Documents.{Documents, ReadAs, setting_of}
use Rattle.it_verify.specs.Provenance.{IsProvenanceLine, FileFails}
use Rattle.it_verify.specs.RefusedFor.{Stage, at_links, at_inspections, at_deliver, at_provenance}
use Rattle.it_verify.specs.RefusedFor.{FailsAt, stages}
use Rattle.it_verify.specs.Evidence.{Evidence, IsEvidence}
use Rattle.it_verify.specs.Inspections.{HasRecorded}
use Rattle.it_verify.specs.Made.{IsMadeBy}
use Rattle.it_verify.specs.Verdict.{IsVerdict}
use Rattle.it_verify.specs.VerifyOutput.{IsVerifyOutput}
use Rattle.it_verify.specs.VerificationLaws.{HasSameOutcome}
use Rattle.it_verify.specs.declared.inputs.Inputs.{Inputs}
use Rattle.it_outcome.specs.declared.outcome.Status.{Status}
use Rattle.it_report.specs.declared.refusal.Refusal.{Refusal}
use Rattle.it_report.specs.declared.verdict.Verdict.{Verdict}
use Rattle.it_report.specs.declared.verdict.Verdict.TheVariants.{Accepted, Refused}
use Rattle.it_verify.proofs.Counterparts.{Carried, Reread, Share, at_each, recorded_there, reread}
use Rattle.it_verify.proofs.Counterparts.{share_back, share_of, with_envelope}

alike_share : (panel : Panel) (a b : Inputs) → InputsAlike panel a b → Share panel a b
alike_share = share_of ChainAlike (λ here there. here ↔ there)

alike_back : (panel : Panel) (a b : Inputs) → InputsAlike panel a b → InputsAlike panel b a
alike_back panel a b h =
    let share = share_back panel a b (alike_share panel a b h) in
    record {
      policy = share.policy;
      sums = share.sums;
      sums512 = share.sums512;
      moment = share.moment;
      depth = share.depth;
      layout = share.layout;
      records = share.records;
      bundles = λ documents read.
          let same = h.bundles
          (with_envelope documents (reread panel b a share documents read).other)
          (reread panel b a share documents read).read in
          subst (λ depth. ChainAlike (setting_of panel documents) depth documents.layout b.links
          a.links) h.depth (same.1, same.0);
      provenance = λ documents id payload object read key.
          let same = h.provenance
          (with_envelope documents (reread panel b a share documents read).other) id payload
          object (reread panel b a share documents read).read key in
          (same.1, same.0);
    }

pub fits_stands : (expectations : List Expectation) (path : List ℕ) (expectation : Expectation)
    → Fits expectations path expectation → Contains expectations expectation
fits_stands expectations path expectation fits =
    subst (λ es. Contains es expectation) (sym fits.they_are)
    (Contains-append_right fits.front (expectation ∷ fits.rest) expectation
    (in_head expectation fits.rest))

-- what attests the same payload, signed by the same key, meets the same expectation in all but the
-- level
meets_attested : (panel : Panel) (inputs : Inputs) (expectation : Expectation) (digests : DigestSet)
    (envelope : Envelope) (builder : Builder)
    (m : MeetsBesidesLevel panel expectation digests envelope builder)
    → (given : IsAttested panel inputs m.signed.id m.signed.object envelope.payload)
    → MeetsBesidesLevel panel expectation digests given.envelope builder
meets_attested panel inputs expectation digests envelope builder m given = record {
  provenance = m.provenance;
  is_expected = m.is_expected;
  signed = record {
    id = m.signed.id;
    object = m.signed.object;
    key = given.signed.0;
    is_key = m.signed.is_key;
    signed = given.signed.1;
  };
  attests = record {
    statement = m.attests.statement;
    subject = m.attests.subject;
    type_is = given.payload_type;
    reads = subst (λ payload. StatementOf payload m.attests.statement) (sym given.payload_is)
        m.attests.reads;
    provenance_is = m.attests.provenance_is;
    is_subject = m.attests.is_subject;
    digests_agree = m.attests.digests_agree;
  };
  built_by = m.built_by;
  build_type = m.build_type;
  parameters = m.parameters;
}

-- some line of the provenance meets an expectation in all but the level with a builder of this
-- level
abbrev pub HasLevel : Panel → Inputs → Expectation → DigestSet → ℕ → Type 0
HasLevel panel inputs expectation digests level = (envelope : Envelope)
    × IsProvenanceLine inputs envelope × MeetsAtLevel panel expectation digests envelope level

-- ---- from inputs to alike ones
module _ (panel : Panel) (a b : Inputs) (h : InputsAlike panel a b) (documents : Documents)
    (read : ReadAs a documents) where
  chains : ChainsCome a.depth documents.layout (setting_of panel documents) a.links
      (setting_of panel documents) b.links
  chains = alike_chains (setting_of panel documents) a.depth documents.layout a.links b.links
      (h.bundles documents read)

  evidence_there : (other : Envelope) (evidence : Evidence) → IsEvidence panel a documents evidence
      → IsEvidence panel b (with_envelope documents other) evidence
  evidence_there other evidence is = record {
    steps = subst (λ depth. Chain (setting_of panel documents) depth documents.layout b.links
        evidence.steps) h.depth ((chains.chain evidence.steps).0 is.steps);
    inspections = zip_weaker (HasRecorded a) (HasRecorded b)
        (recorded_there panel a b (alike_share panel a b h)) documents.layout.inspections
        evidence.inspections is.inspections;
  }

  -- what meets an expectation in the others, in all but the level, has its like in the inputs
  like_here : (expectation : Expectation) (digests : DigestSet) (envelope : Envelope)
      (builder : Builder) → Contains documents.policy.expectations expectation
      → IsProvenanceLine b envelope
      → MeetsBesidesLevel panel expectation digests envelope builder → (other : Envelope)
      × IsProvenanceLine a other × MeetsBesidesLevel panel expectation digests other builder
  like_here expectation digests envelope builder expected is m =
      let there : IsAttested panel b m.signed.id m.signed.object envelope.payload =
      record {
        envelope = envelope;
        is_line = is;
        payload_type = m.attests.type_is;
        payload_is = refl;
        signed = (m.signed.key, m.signed.signed);
      } in
      let here : IsAttested panel a m.signed.id m.signed.object envelope.payload =
      (h.provenance documents m.signed.id envelope.payload m.signed.object read
      (record {
        expectation = expectation;
        builder = builder;
        is_expected = expected;
        is_builder = m.is_expected;
        is_key = m.signed.is_key;
      })).1 there in (
        here.envelope,
        here.is_line,
        meets_attested panel a expectation digests envelope builder m
            here,
      )

  module _ (expectation : Expectation) (digests : DigestSet)
      (expected : Contains documents.policy.expectations expectation) where
    meets_here : (envelope : Envelope) → IsProvenanceLine b envelope
        → Meets panel expectation digests envelope → (other : Envelope) × IsProvenanceLine a other
        × Meets panel expectation digests other
    meets_here envelope is m =
        let here = like_here expectation digests envelope m.builder expected is m.besides_level in (
          here.0,
          here.1,
          record {
            builder = m.builder;
            besides_level = here.2;
            level_is_enough = m.level_is_enough;
          },
        )

    level_here : (level : ℕ) → HasLevel panel b expectation digests level
        → HasLevel panel a expectation digests level
    level_here level h =
        let m = h.2 in
        let found = like_here expectation digests h.0 m.builder expected h.1 m.besides_level in (
          found.0,
          found.1,
          record {
            builder = m.builder;
            besides_level = found.2;
            level_is = m.level_is;
          },
        )

module _ (panel : Panel) (a b : Inputs) (h : InputsAlike panel a b) (documents : Documents)
    (read : ReadAs a documents) where
  again : Reread panel b documents
  again = reread panel a b (alike_share panel a b h) documents read

  -- alike inputs have one best level
  best_there : (expectation : Expectation) (digests : DigestSet)
      → Contains documents.policy.expectations expectation → (best : Option ℕ)
      → IsBest panel expectation digests (IsProvenanceLine a) best
      → IsBest panel expectation digests (IsProvenanceLine b) best
  best_there expectation digests expected =
      greatest_alike (HasLevel panel a expectation digests) (HasLevel panel b expectation digests)
      (level_here panel b a (alike_back panel a b h) (with_envelope documents again.other)
      again.read expectation digests expected)
      (level_here panel a b h documents read expectation digests expected)

  file_fails_there : (file : List ℕ × DigestSet) (refusal : Refusal)
      → FileFails panel a documents.policy.expectations file refusal
      → FileFails panel b documents.policy.expectations file refusal
  file_fails_there file refusal =
      ⊎_elim inl
      (λ x.
      let expected = fits_stands documents.policy.expectations file.0 x.0 x.2 in
      inr (
        x.0,
        x.1,
        x.2,
        λ envelope is m. let found = meets_here panel a b h documents read x.0 file.1 expected
            envelope is m in x.3 found.0 found.1 found.2,
        best_there x.0 file.1 expected x.1 x.4,
        x.5,
      ))

module _ (panel : Panel) (a b : Inputs) (h : InputsAlike panel a b) where
  share : Share panel a b
  share = alike_share panel a b h

  back : InputsAlike panel b a
  back = alike_back panel a b h

  links_there : Carried panel a b at_links
  links_there refusal x =
      let again = reread panel a b share x.0 x.2 in
      let first = ((chains panel a b h x.0 x.2).first x.1).0 x.3 in (
        with_envelope x.0 again.other,
        x.1,
        again.read,
        subst (λ depth. ChainFirst (setting_of panel x.0) depth x.0.layout b.links x.1) h.depth
            first,
        x.4,
      )

  inspections_there : Carried panel a b at_inspections
  inspections_there refusal x =
      let again = reread panel a b share x.0 x.2 in (
        with_envelope x.0 again.other,
        x.1,
        again.read,
        evidence_there panel a b h x.0 x.2 again.other x.1 x.3,
        x.4,
      )

  deliver_there : Carried panel a b at_deliver
  deliver_there refusal x =
      let again = reread panel a b share x.0 x.2 in (
        with_envelope x.0 again.other,
        x.1,
        again.read,
        evidence_there panel a b h x.0 x.2 again.other x.1 x.3,
        x.4,
      )

  provenance_there : Carried panel a b at_provenance
  provenance_there refusal x =
      let again = reread panel a b share x.0 x.1 in
      let expectations = x.0.policy.expectations in (
        with_envelope x.0 again.other,
        again.read,
        first_alike (FileFails panel a expectations) (FileFails panel b expectations)
            (entries x.0.delivered) (λ file c. file_fails_there panel a b h x.0 x.1 file)
            (λ file c. file_fails_there panel b a back (with_envelope x.0 again.other) again.read
            file) refusal x.2,
      )

  stands_there : (place : Stage) → Carried panel a b place
  stands_there = at_each panel a b share (Carried panel a b) (λ place carried. carried) links_there
      inspections_there deliver_there provenance_there

  made_there : (documents : Documents) (evidence : Evidence) → IsMadeBy panel a documents evidence
      → (other : Envelope) × IsMadeBy panel b (with_envelope documents other) evidence
  made_there documents evidence made =
      let again = reread panel a b share documents made.read in (
        again.other,
        record {
          read = again.read;
          some_file = made.some_file;
          owners = λ id object known. (again.owners id object known).0
              (made.owners id object known);
          is_evidence = evidence_there panel a b h documents made.read again.other evidence
              made.is_evidence;
          inspection_rules = made.inspection_rules;
          deliver_rules = made.deliver_rules;
          provenance = λ path digests known.
              let has = made.provenance path digests known in
              let found = meets_here panel b a back (with_envelope documents again.other) again.read
              has.expectation digests
              (fits_stands documents.policy.expectations path has.expectation has.fits) has.envelope
              has.is_line has.meets in
              record {
                expectation = has.expectation;
                envelope = found.0;
                fits = has.fits;
                is_line = found.1;
                meets = found.2;
              };
        },
      )

module _ (panel : Panel) (a b : Inputs) (h : InputsAlike panel a b) where
  verdict_there : (verdict : Verdict) → IsVerdict panel a verdict → IsVerdict panel b verdict
  verdict_there (Accepted steps files) x = let made = made_there panel a b h x.0 x.1 x.2 in
      (with_envelope x.0 made.0, x.1, made.1, x.3)
  verdict_there (Refused refusal) x =
      first_alike (FailsAt panel a) (FailsAt panel b) stages
      (λ place c. stands_there panel a b h place)
      (λ place c. stands_there panel b a (alike_back panel a b h) place) refusal x

  output_there : (text : List ℕ) (status : Status) → IsVerifyOutput panel a text status
      → IsVerifyOutput panel b text status
  output_there text status x = record {
    verdict = x.verdict;
    is_verdict = verdict_there x.verdict x.is_verdict;
    text_is =
        x.text_is;
    status_is = x.status_is;
  }

-- alike inputs come to the same
pub alike_inputs : (panel : Panel) (a b : Inputs) → InputsAlike panel a b → HasSameOutcome panel a panel b
alike_inputs panel a b h =
    let back = alike_back panel a b h in
    record {
      verdict = λ verdict. (
        verdict_there panel a b h verdict,
        verdict_there panel b a back verdict,
      );
      report = λ text status. (
        output_there panel a b h text status,
        output_there panel b a back text status,
      );
    }
