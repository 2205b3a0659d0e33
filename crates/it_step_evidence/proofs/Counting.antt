-- What counts for a step, and the files that hold it.
use Rattle.std.proofs.Common.{◌≡◌, ◌∙◌, ◌↔◌, ℕ, List, Option, None, Some, Contains, IsTrue, is_some}
use Rattle.std.proofs.Common.{refl, sym, subst}
use Rattle.std.specs.FinMap.{get}
use Rattle.std.proofs.lemmas.Option.{same_Some}
use Rattle.it_base.specs.Finds.{Finds, FindsAs}
use Rattle.it_dsse.specs.Panel.{Panel}
use Rattle.it_dsse.specs.Signed.{IsSigner, Signed}
use Rattle.it_dsse.specs.declared.envelope.Envelope.{Envelope}
use Rattle.it_dsse.specs.declared.key_object.KeyObject.{KeyObject}
use Rattle.it_docs.specs.declared.layout.Layout.{Layout}
use Rattle.it_docs.specs.declared.step.Step.{Step}
use Rattle.it_chain.specs.inside.ClaimedFiles.{AreClaimed}
use Rattle.it_chain.specs.Body.{as_body}
use Rattle.it_chain.specs.Candidate.{IsCandidate}
use Rattle.it_chain.specs.ClaimedFiles.{IsClaimed}
use Rattle.it_chain.specs.Contents.{Contents, files_of}
use Rattle.it_chain.specs.CountedBodies.{BodyOf, Setting}
use Rattle.it_chain.specs.declared.body.Body.{Body as Held}
use Rattle.it_chain.specs.declared.bundle.File.{File}
use Rattle.it_chain.proofs.ClaimedFiles.{in_those, of_those}
use Rattle.it_chain.proofs.Documents.{envelope_same}
use Rattle.it_step_evidence.specs.CountsBy.{CountsAt, CountsBy}
use Rattle.it_step_evidence.specs.EvidenceLaws.{FilesCount}
use Rattle.it_step_evidence.specs.inside.Counting.{HoldsAt, HoldsBody, IsNameFor, IsPlaceFor}
use Rattle.it_valid_signatures.specs.FirstPlace.{IsSignedAt}
use Rattle.it_valid_signatures.proofs.FirstSigned.{placed_signed}

-- ---- whether a file holds a body
module _ (panel : Panel) (step id : List ℕ) (object : KeyObject) (file : File) where
  abbrev Holds : Type 0
  Holds = HoldsBody panel step id object file

  pub no_candidate : ((envelope : Envelope) → ¬ IsCandidate file.bytes envelope) → ¬ Holds
  no_candidate none h = none h.envelope h.is_candidate

  module _ (envelope : Envelope) (is : IsCandidate file.bytes envelope) where
    one_envelope : (h : Holds) → h.envelope ≡ envelope
    one_envelope h = envelope_same file.bytes h.envelope envelope h.is_candidate.is_envelope
        is.is_envelope

    pub unsigned : ¬ IsSigner panel envelope object id → ¬ Holds
    unsigned never h = never (subst (λ (e : Envelope). IsSigner panel e object id) (one_envelope h)
        h.signed)

    pub holds_where : IsSigner panel envelope object id → (found : Option Held)
        → FindsAs as_body (BodyOf step envelope.payload) found → IsTrue (is_some found) ↔ Holds
    holds_where signed None none = (
      λ is_none. absurd (cc is_none),
      λ h. absurd (none h.body
          (subst (λ (e : Envelope). BodyOf step e.payload h.body) (one_envelope h) h.reads)),
    )
    holds_where signed (Some body) reads = (
      λ is_some. record {
        envelope = envelope;
        body = as_body body;
        is_candidate = is;
        signed = signed;
        reads = reads;
      },
      λ h. refl,
    )

-- ---- at which place of its envelope a file's signature stands
module _ (panel : Panel) (step id : List ℕ) (object : KeyObject) (file : File) where
  abbrev IsHeld : ℕ → Type 0
  IsHeld = HoldsAt panel step id object file

  -- a file with such a place holds a body
  pub held_body : (place : ℕ) → IsHeld place → HoldsBody panel step id object file
  held_body place h = record {
    envelope = h.envelope;
    body = h.body;
    is_candidate = h.is_candidate;
    signed = (h.signed.n, placed_signed panel h.envelope id object place h.signed);
    reads = h.reads;
  }

  module _ (envelope : Envelope) (is : IsCandidate file.bytes envelope) where
    pub held_where : HoldsBody panel step id object file → (found : Option ℕ)
        → Finds (IsSignedAt panel envelope id object) found → Finds IsHeld found
    held_where h None none = λ place held. none place
        (subst (λ (e : Envelope). IsSignedAt panel e id object place)
        (envelope_same file.bytes held.envelope envelope held.is_candidate.is_envelope
        is.is_envelope) held.signed)
    held_where h (Some place) at = record {
      envelope = envelope;
      body = h.body;
      is_candidate = is;
      signed = at;
      reads = subst (λ (e : Envelope). BodyOf step e.payload h.body)
          (envelope_same file.bytes h.envelope envelope h.is_candidate.is_envelope
          is.is_envelope) h.reads;
    }

-- ---- what counts
-- something counts exactly where it counts by a file
pub files_count : FilesCount
files_count setting layout bundle step id = (
  λ by. (by.1.payload, by.1.counted),
  λ counts. (
    counts.1.file.name,
    record { payload = counts.0; counted = counts.1; name_is = refl },
  ),
)

module _ (setting : Setting) (layout : Layout) (bundle : Contents) (step : Step)
    (claimed : List File) (are : AreClaimed step.name (files_of bundle) claimed) (id : List ℕ)
    (object : KeyObject) (known : get layout.keys id ≡ Some object) (name : List ℕ) where
  abbrev Claims : File → Type 0
  Claims file = IsClaimed step.name file.name

  -- a file of this name that holds a body is one by which something counts
  pub name_counts : Contains step.pubkeys id
      → IsNameFor setting.panel step.name claimed (id, object) name
      → CountsBy setting layout bundle step id name
  name_counts listed is =
      let from = of_those Claims (files_of bundle) claimed are is.file is.stands in
      let holds = is.holds in
      record {
        payload = holds.envelope.payload;
        counted = record {
          file = is.file;
          envelope = holds.envelope;
          object = object;
          key = holds.signed.0;
          body = holds.body;
          stands = from.0;
          claimed = from.1;
          is_envelope = holds.is_candidate.is_envelope;
          type_is = holds.is_candidate.type_is;
          payload_is = refl;
          listed = listed;
          known = known;
          signed = holds.signed.1;
          reads = holds.reads;
        };
        name_is = is.name_is;
      }

  -- and a file by which something counts holds a body
  pub counts_name : CountsBy setting layout bundle step id name
      → IsNameFor setting.panel step.name claimed (id, object) name
  counts_name by =
      let c = by.counted in
      let same : c.object ≡ object = same_Some c.object object (sym c.known ∙ known) in
      record {
        file = c.file;
        stands = in_those Claims (files_of bundle) claimed are c.file c.stands c.claimed;
        name_is = by.name_is;
        holds = record {
          envelope = c.envelope;
          body = c.body;
          is_candidate = record { is_envelope = c.is_envelope; type_is = c.type_is };
          signed = (
            c.key,
            subst (λ (o : KeyObject). Signed setting.panel c.envelope id o c.key) same c.signed,
          );
          reads = subst (λ payload. BodyOf step.name payload c.body) (sym c.payload_is) c.reads;
        };
      }

  -- and its place is that of the signature by which something counts
  pub place_counts : (place : ℕ) → Contains step.pubkeys id
      → IsPlaceFor setting.panel step.name claimed (id, object) name place
      → CountsAt setting layout bundle step id name place
  place_counts place listed is =
      let from = of_those Claims (files_of bundle) claimed are is.file is.stands in
      let holds = is.holds in
      record {
        by = record {
          payload = holds.envelope.payload;
          counted = record {
            file = is.file;
            envelope = holds.envelope;
            object = object;
            key = holds.signed.n;
            body = holds.body;
            stands = from.0;
            claimed = from.1;
            is_envelope = holds.is_candidate.is_envelope;
            type_is = holds.is_candidate.type_is;
            payload_is = refl;
            listed = listed;
            known = known;
            signed = placed_signed setting.panel holds.envelope id object place holds.signed;
            reads = holds.reads;
          };
          name_is = is.name_is;
        };
        first = holds.signed.first;
      }
