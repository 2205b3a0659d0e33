-- What the findings on files tell of what counts.
use Rattle.std.proofs.Common.{◌≡◌, ◌∙◌, ℕ, List, Contains, ap, refl, subst, sym}
use Rattle.std.proofs.lemmas.List.Elements.{All-contains, All-contains_itself, All-weaker}
use Rattle.it_dsse.specs.Envelope.{EnvelopeOf}
use Rattle.it_dsse.specs.Signed.{Signed}
use Rattle.it_dsse.specs.declared.envelope.Envelope.{Envelope}
use Rattle.it_docs.specs.PayloadType.{in_toto_type}
use Rattle.it_docs.specs.declared.layout.Layout.{Layout}
use Rattle.it_docs.specs.declared.link.Link.{Link}
use Rattle.it_docs.specs.declared.step.Step.{Step}
use Rattle.it_docs.proofs.Same.{link_same}
use Rattle.it_chain.specs.Contents.{Contents, files_of}
use Rattle.it_chain.specs.ClaimedFiles.{IsClaimed}
use Rattle.it_chain.specs.CountedBodies.{Body, BodyOf, Counted, Setting, of_layout, of_link}
use Rattle.it_chain.specs.declared.bundle.File.{File}
use Rattle.it_chain.proofs.Documents.{envelope_same, link_or_layout}
use Rattle.it_step_notes.specs.NoteLaws.{CountsUnder, Tells}
use Rattle.it_step_notes.specs.Signing.{IsSignedUnder}
use Rattle.it_step_notes.specs.StepNotes.{CountsFor, IsFinding, IsNeither, IsOtherLink}
use Rattle.it_step_notes.specs.declared.note.Finding.{Finding}
use Rattle.it_step_notes.specs.declared.note.Finding.TheVariants.{NoEnvelope, PayloadType}
use Rattle.it_step_notes.specs.declared.note.Finding.TheVariants.{NoSignature, Unsigned, Counts}
use Rattle.it_step_notes.specs.declared.note.Finding.TheVariants.{NeitherLinkNorLayout, OtherName}

-- a payload that is a body is no other thing
not_neither : (step payload : List ℕ) (body : Body) → BodyOf step payload body
    → ¬ IsNeither payload
not_neither step payload (of_link link) h n = n.no_link link h.0
not_neither step payload (of_layout layout) h n = n.no_layout layout h

not_other : (step payload name : List ℕ) (body : Body) → BodyOf step payload body
    → ¬ IsOtherLink step payload name
not_other step payload name (of_link link) h o = o.other (sym o.name_is
    ∙ ap (λ (l : Link). l.name) (link_same payload o.link link o.reads h.0) ∙ h.1)
not_other step payload name (of_layout layout) h o =
    link_or_layout payload o.link layout o.reads h

module _ (setting : Setting) (layout : Layout) (bundle : Contents) (step : Step) (file : File)
  where
    -- the envelope of a file, of which something counts
    module _ (envelope : Envelope) (is : EnvelopeOf file.bytes envelope) (id payload : List ℕ)
        (c : Counted setting layout bundle step id payload) (same : c.file ≡ file) where
      envelope_is : c.envelope ≡ envelope
      envelope_is = envelope_same file.bytes c.envelope envelope
          (subst (λ (f : File). EnvelopeOf f.bytes c.envelope) same c.is_envelope) is

      type_here : envelope.payload_type ≡ in_toto_type
      type_here = ap (λ (e : Envelope). e.payload_type) (sym envelope_is) ∙ c.type_is

      signed_here : IsSignedUnder setting.panel layout envelope id
      signed_here = record {
        object = c.object;
        known = c.known;
        signs = (
          c.key,
          subst (λ (e : Envelope). Signed setting.panel e id c.object c.key)
              envelope_is c.signed,
        );
      }

      reads_here : BodyOf step.name envelope.payload c.body
      reads_here = subst (λ bytes. BodyOf step.name bytes c.body)
          (sym c.payload_is ∙ ap (λ (e : Envelope). e.payload) envelope_is) c.reads

    counts_under : Contains (files_of bundle) file → IsClaimed step.name file.name
        → (envelope : Envelope) → EnvelopeOf file.bytes envelope → (ids : List (List ℕ))
        → CountsFor setting.panel layout step envelope ids → (id : List ℕ)
        → Contains step.pubkeys id → IsSignedUnder setting.panel layout envelope id
        → CountsUnder setting layout bundle step file id
    counts_under stands claimed envelope is ids h id listed s = record {
      payload = envelope.payload;
      counted = record {
        file = file;
        envelope = envelope;
        object = s.object;
        key = s.signs.0;
        body = h.body;
        stands = stands;
        claimed = claimed;
        is_envelope = is;
        type_is = h.type_is;
        payload_is = refl;
        listed = listed;
        known = s.known;
        signed = s.signs.1;
        reads = h.reads;
      };
      file_is = refl;
    }

    tells_of : (finding : Finding) → Contains (files_of bundle) file
        → IsClaimed step.name file.name → IsFinding setting.panel layout step file.bytes finding
        → Tells setting layout bundle step file finding
    tells_of NoEnvelope stands claimed h = λ id payload c same.
        h c.envelope (subst (λ (f : File). EnvelopeOf f.bytes c.envelope) same c.is_envelope)
    tells_of (PayloadType other) stands claimed h = λ id payload c same.
        h.2.1 (sym h.2.0 ∙ type_here h.0 h.1 id payload c same)
    tells_of (NoSignature others) stands claimed h = λ id payload c same.
        h.2.unsigned id c.listed (signed_here h.0 h.1 id payload c same)
    tells_of Unsigned stands claimed h = λ id payload c same.
        h.2 id c.listed (signed_here h.0 h.1 id payload c same)
    tells_of NeitherLinkNorLayout stands claimed h = λ id payload c same.
        not_neither step.name h.0.payload c.body (reads_here h.0 h.1 id payload c same) h.2
    tells_of (OtherName name) stands claimed h = λ id payload c same.
        not_other step.name h.0.payload name c.body (reads_here h.0 h.1 id payload c same) h.2
    tells_of (Counts ids) stands claimed h = All-weaker (Contains ids)
        (CountsUnder setting layout bundle step file)
        (λ id inside. counts_under stands claimed h.0 h.1 ids h.2 id
        (All-contains (Contains step.pubkeys) ids id h.2.listed inside)
        (All-contains (IsSignedUnder setting.panel layout h.0) ids id h.2.signed inside)) ids
        (All-contains_itself ids)

pub tells : (setting : Setting) (layout : Layout) (bundle : Contents) (step : Step) (file : File)
    (finding : Finding) → Contains (files_of bundle) file → IsClaimed step.name file.name
    → IsFinding setting.panel layout step file.bytes finding
    → Tells setting layout bundle step file finding
tells = tells_of
