-- What stands for a file, by the envelope that is its provenance.
use Rattle.std.proofs.Common.{◌≡◌, ◌∙◌, ℕ, List, ◌∷◌, Option, None, Some, Contains, option_map, ap, refl}
use Rattle.std.proofs.Common.{get_or, slice_get, subst, sym}
use Rattle.std.proofs.lemmas.List.Elements.{Contains-append_right}
use Rattle.std.proofs.lemmas.Option.{get_or_from_slice_get}
use Rattle.it_base.proofs.Members.{in_head}
use Rattle.it_digest.specs.declared.compare.DigestSet.{DigestSet}
use Rattle.it_dsse.specs.Panel.{Panel}
use Rattle.it_dsse.specs.declared.envelope.Envelope.{Envelope}
use Rattle.it_docs.specs.declared.policy.Builder.{Builder}
use Rattle.it_docs.specs.declared.policy.Expectation.{Expectation}
use Rattle.it_docs.specs.declared.statement.Provenance.{Provenance}
use Rattle.it_docs.specs.declared.statement.Statement.{Statement}
use Rattle.it_docs.proofs.Same.{statement_same}
use Rattle.it_rules.proofs.Listed.{Contains-from_place}
use Rattle.it_prov.specs.Best.{IsGreatest, MeetsAtLevel}
use Rattle.it_prov.specs.Finding.{IsFound, IsMissing, NoneFits}
use Rattle.it_prov.specs.Fits.{FitsAt}
use Rattle.it_prov.specs.Held.{AreHeld, HoldsOrNone}
use Rattle.it_prov.specs.Meets.{Meets, MeetsBesidesLevel}
use Rattle.it_prov.specs.declared.attestations.Attestation.{Attestation}
use Rattle.it_prov.specs.inside.Judged.{IsBuiltBy, OfSome}
use Rattle.it_prov.proofs.Greatest.{greatest_alike}
use Rattle.it_prov.proofs.Holding.{zip_stands}
use Rattle.it_prov.proofs.Meeting.{built_of, level_by, level_of}
use Rattle.it_prov.proofs.OneFit.{fits_one}
use Rattle.it_prov.proofs.Saying.{held_of}
use Rattle.it_json_report.specs.declared.evidence.FileEvidence.{FileEvidence}
use Rattle.it_json_report.specs.declared.evidence.Signer.{Signer}
use Rattle.it_vouched.specs.declared.vouched.Vouched.{Vouched}
use Rattle.it_file_evidence.specs.FileEvidence.{IsFileEvidence, IsFirstLine}
use Rattle.it_file_evidence.specs.Signer.{signer_among}
use Rattle.it_prov.specs.ProvenanceLines.{AreReadFrom}
use Rattle.it_file_evidence.specs.inside.Proven.{IsProven, builder_named}
use Rattle.it_file_evidence.proofs.ReadLines.{read_at}

-- ---- whether a file has provenance
module _ (panel : Panel) (expectations : List Expectation) (envelopes : List Envelope)
    (file : List ℕ × DigestSet) where
  pub unproven_none : NoneFits expectations file.0 → ¬ IsProven panel expectations envelopes file
  unproven_none none p = none p.expectation p.fits

  pub unproven_missing : (best : Option ℕ)
      → IsMissing panel expectations file.0 file.1 envelopes best
      → ¬ IsProven panel expectations envelopes file
  unproven_missing best missing p =
      let same = fits_one expectations file.0 p.expectation missing.expectation p.fits missing.fits in
      missing.none_meets p.envelope p.stands
      (subst (λ (e : Expectation). Meets panel e file.1 p.envelope) same p.meets)

  pub found_proven : (index : ℕ) → IsFound panel expectations file.0 file.1 envelopes index
      → IsProven panel expectations envelopes file
  found_proven index found = record {
    expectation = found.expectation;
    envelope = found.first.envelope;
    fits = found.fits;
    stands = Contains-from_place envelopes index found.first.envelope found.first.stands;
    meets = found.first.meets;
  }

-- ---- the envelope that was found
module _ (panel : Panel) (expectations : List Expectation) (envelopes : List Envelope)
    (file : List ℕ × DigestSet) (index : ℕ)
    (found : IsFound panel expectations file.0 file.1 envelopes index) where
  abbrev expectation : Expectation
  expectation = found.expectation

  abbrev pub envelope_of : Envelope
  envelope_of = found.first.envelope

  abbrev met : MeetsBesidesLevel panel expectation file.1 envelope_of found.first.meets.builder
  met = found.first.meets.besides_level

  abbrev pub provenance_of : Provenance
  provenance_of = met.provenance

  abbrev AtLevel : ℕ → Type 0
  AtLevel = MeetsAtLevel panel expectation file.1 envelope_of

  abbrev Built : ℕ → Type 0
  Built = OfSome (IsBuiltBy panel envelope_of provenance_of.builder) expectation.builders

  is_expectation : Contains expectations expectation
  is_expectation =
      let fits = found.fits in
      subst (λ (es : List Expectation). Contains es expectation) (sym fits.they_are)
      (Contains-append_right fits.front (expectation ∷ fits.rest) expectation
      (in_head expectation fits.rest))

  -- the builder that the Statement of the envelope names
  builder_is : (held : Option Attestation) → HoldsOrNone panel expectations envelope_of held
      → builder_named held ≡ Some provenance_of.builder
  builder_is None none =
      absurd (none met.attests.statement (held_of panel expectations expectation is_expectation
      file.1 envelope_of found.first.meets.builder.level
      (record { builder = found.first.meets.builder; besides_level = met; level_is = refl })))
  builder_is (Some attestation) at =
      ap (λ (s : Statement). option_map (λ (p : Provenance). p.builder) s.provenance)
      (statement_same envelope_of.payload attestation.statement met.attests.statement at.held.reads
      met.attests.reads)
      ∙ ap (option_map (λ (p : Provenance). p.builder)) met.attests.provenance_is

  -- the levels of the builders that are named and signed
  built_at : (level : ℕ) → AtLevel level → Built level
  built_at = built_of panel expectation file.1 envelope_of provenance_of met.attests

  at_built : (level : ℕ) → Built level → AtLevel level
  at_built = level_by panel expectation file.1 envelope_of provenance_of met.attests
      (record { build_type = met.build_type; parameters = met.parameters })

  pub some_built : ¬ IsGreatest Built None
  some_built none = none found.first.meets.builder.level
      (built_at found.first.meets.builder.level
      (level_of panel expectation file.1 envelope_of found.first.meets))

  -- ---- what was read at an index or a place
  held_read : (held : List (Option Attestation)) (read : Option Attestation)
      → AreHeld panel expectations envelopes held → read ≡ get_or held index read
      → HoldsOrNone panel expectations envelope_of read
  held_read held read are is =
      let at = zip_stands (HoldsOrNone panel expectations) envelopes held index envelope_of are
      found.first.stands in
      subst (HoldsOrNone panel expectations envelope_of)
      (sym (is ∙ get_or_from_slice_get held index at.0 read at.1)) at.2

  -- the builder that is named there
  pub builder_read : (held : List (Option Attestation)) (read : Option Attestation)
      (named : Option (List ℕ)) → AreHeld panel expectations envelopes held
      → read ≡ get_or held index read → named ≡ builder_named read
      → named ≡ Some provenance_of.builder
  builder_read held read named are is names = names ∙ builder_is read (held_read held read are is)

  -- the builders of the expectation at a place that speaks of the file
  builders_there : (place : ℕ) (wanted : Expectation) (builders : List Builder)
      → FitsAt expectations file.0 place → builders ≡ (get_or expectations place wanted).builders
      → builders ≡ expectation.builders
  builders_there place wanted builders at are =
      let wanted_is : get_or expectations place wanted ≡ expectation =
      get_or_from_slice_get expectations place at.expectation wanted at.stands
      ∙ fits_one expectations file.0 at.expectation expectation at.fits found.fits in
      are ∙ ap (λ (e : Expectation). e.builders) wanted_is

  -- the greatest level of the builders that are named there and signed what stands there
  pub greatest_read : (place : ℕ) (wanted : Expectation) (other : Envelope)
      (builders : List Builder) (id : List ℕ) (level : Option ℕ)
      → FitsAt expectations file.0 place
      → builders ≡ (get_or expectations place wanted).builders → id ≡ provenance_of.builder
      → IsGreatest (OfSome (IsBuiltBy panel (get_or envelopes index other) id) builders) level
      → IsGreatest Built level
  greatest_read place wanted other builders id level at builders_are id_is h =
      let same = builders_there place wanted builders at builders_are in
      let read = get_or envelopes index other in
      subst (λ (e : Envelope). IsGreatest
      (OfSome (IsBuiltBy panel e provenance_of.builder) expectation.builders) level)
      (get_or_from_slice_get envelopes index envelope_of other found.first.stands)
      (subst (λ (i : List ℕ). IsGreatest (OfSome (IsBuiltBy panel read i) expectation.builders)
      level) id_is
      (subst (λ (bs : List Builder). IsGreatest (OfSome (IsBuiltBy panel read id) bs) level)
      same h))

  -- who signed what stands there for the builders that are named
  pub signer_read : (vouched : List Vouched) (place : ℕ) (wanted : Expectation) (other : Envelope)
      (builders : List Builder) (id : List ℕ) (signer : Option Signer)
      → FitsAt expectations file.0 place
      → builders ≡ (get_or expectations place wanted).builders → id ≡ provenance_of.builder
      → signer ≡ signer_among vouched builders id (get_or envelopes index other)
      → signer ≡ signer_among vouched expectation.builders provenance_of.builder envelope_of
  signer_read vouched place wanted other builders id signer at builders_are id_is is =
      let read = get_or envelopes index other in
      is
      ∙ ap (λ (bs : List Builder). signer_among vouched bs id read)
      (builders_there place wanted builders at builders_are)
      ∙ ap (λ (i : List ℕ). signer_among vouched expectation.builders i read) id_is
      ∙ ap (λ (e : Envelope). signer_among vouched expectation.builders provenance_of.builder e)
      (get_or_from_slice_get envelopes index envelope_of other found.first.stands)

  module _ (lines : List (List ℕ)) (places : List ℕ)
      (are : AreReadFrom 1 lines envelopes places) (place : ℕ)
      (at : slice_get places index ≡ Some place) where
    first_line : IsFirstLine panel expectation file.1 lines place envelope_of
    first_line =
        let line = read_at 1 lines envelopes places are index envelope_of place found.first.stands
        at in
        record {
          index = line.index;
          line = line.line;
          place_is = line.place_is;
          stands = line.stands;
          reads = line.reads;
          meets = found.first.meets;
          none_before = λ earlier other c reads. found.first.none_before other
              (line.before earlier other c reads);
        }

    pub is_evidence : (vouched : List Vouched) (given : FileEvidence) → given.path ≡ file.0
        → given.digests ≡ file.1 → given.line ≡ place → given.builder ≡ provenance_of.builder
        → IsGreatest Built (Some given.level)
        → given.signer ≡ signer_among vouched expectation.builders provenance_of.builder envelope_of
        → IsFileEvidence panel vouched lines expectations file given
    is_evidence vouched given path digests line builder level signer = record {
      path_is = path;
      digests_are = digests;
      expectation = expectation;
      envelope = envelope_of;
      provenance = provenance_of;
      fits = found.fits;
      first = subst (λ n. IsFirstLine panel expectation file.1 lines n envelope_of) (sym line)
          first_line;
      attests = met.attests;
      builder_is = builder;
      level_is = greatest_alike Built AtLevel at_built built_at (Some given.level) level;
      signer_is = signer;
    }
