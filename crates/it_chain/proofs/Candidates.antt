-- Which files can count for a step, and which envelopes a list of candidates has.
use Rattle.std.proofs.Common.{◌≡◌, ◌≢◌, ℕ, List, [], ◌∷◌, ◌++◌, ◌≤◌, length, arith, Option, Some}
use Rattle.std.proofs.Common.{None, slice_get, ⊎_elim, Contains, refl, sym, ap, subst, append-nil}
use Rattle.std.proofs.Common.{◌∙◌}
use Rattle.std.specs.List.{cons_option}
use Rattle.std.proofs.Common.{Bor, map, get_or, ◌<◌}
use Rattle.std.proofs.lemmas.Option.{same_Some}
use Rattle.std.proofs.lemmas.List.{get_or-map, length-map, map-append}
use Rattle.std.proofs.lemmas.List.Sums.{sum_by_push}
use Rattle.std.proofs.lemmas.List.Elements.{Contains-append_left, Contains-append_right}
use Rattle.std.proofs.lemmas.List.Elements.{Contains-append_cases, filter_map-append}
use Rattle.it_base.specs.Finds.{Finds, FindsAs}
use Rattle.it_base.specs.Sum.{CostsIfFound, IsSum}
use Rattle.it_dsse.specs.Envelope.{EnvelopeOf}
use Rattle.it_dsse.specs.declared.envelope.Envelope.{Envelope}
use Rattle.it_docs.specs.Layout.{LayoutOf}
use Rattle.it_docs.specs.Link.{LinkOf}
use Rattle.it_docs.specs.PayloadType.{in_toto_type}
use Rattle.it_docs.specs.declared.layout.Layout.{Layout}
use Rattle.it_docs.specs.declared.link.Link.{Link}
use Rattle.it_docs.proofs.Same.{link_same}
use Rattle.it_chain.specs.inside.Asked.{signature_count}
use Rattle.it_chain.specs.inside.ClaimedFiles.{files_at}
use Rattle.it_chain.specs.Cost.{HasSignatures}
use Rattle.it_chain.specs.Candidate.{IsCandidate}
use Rattle.it_chain.specs.CountedBodies.{Body, of_link, of_layout, BodyOf}
use Rattle.it_chain.specs.inside.Candidates.{AreRead, IsCandidateAt}
use Rattle.it_chain.specs.declared.bundle.File.{File}
use Rattle.it_chain.proofs.Asking.{sum_last}
use Rattle.it_chain.proofs.Documents.{envelope_same, link_or_layout}
use Rattle.it_chain.proofs.Members.{in_head, in_cases, in_none}

-- ---- what a payload is
pub no_body : (step payload : List ℕ) → ((link : Link) → ¬ LinkOf payload link)
    → ((layout : Layout) → ¬ LayoutOf payload layout) → (body : Body) → ¬ BodyOf step payload body
no_body step payload none no_layout (of_link link) h = none link h.0
no_body step payload none no_layout (of_layout layout) h = no_layout layout h

pub other_name : (step payload : List ℕ) (link : Link) → LinkOf payload link → link.name ≢ step
    → (body : Body) → ¬ BodyOf step payload body
other_name step payload link is differs (of_link other) h =
    differs (ap (λ (l : Link). l.name) (link_same payload link other is h.0) ∙ h.1)
other_name step payload link is differs (of_layout layout) h =
    link_or_layout payload link layout is h

-- ---- what a file is
pub other_type : (bytes : List ℕ) (envelope : Envelope) → EnvelopeOf bytes envelope
    → envelope.payload_type ≢ in_toto_type → (other : Envelope) → ¬ IsCandidate bytes other
other_type bytes envelope is differs other h =
    differs (ap (λ (e : Envelope). e.payload_type) (envelope_same bytes envelope other is
    h.is_envelope) ∙ h.type_is)

module _ (files : List File) (place : ℕ) (file : File)
    (is : slice_get files place ≡ Some file) where
  pub lent_at : (found : Option (Bor Envelope))
      → FindsAs (λ (e : Bor Envelope). e.now) (IsCandidate file.bytes) found
      → FindsAs (λ (e : Bor Envelope). e.now) (IsCandidateAt files place) found
  lent_at None none = λ e h. none e (subst (λ (f : File). IsCandidate f.bytes e)
      (same_Some h.0 file (sym h.1 ∙ is)) h.2)
  lent_at (Some e) h = (file, is, h)

-- ---- the candidates of a list of files
abbrev HasEnvelope : File → ℕ → Type 0
HasEnvelope file = CostsIfFound (EnvelopeOf file.bytes) HasSignatures

module _ (files : List File) (file : File) (found : List Envelope) (are : AreRead files found) where
  passed_all : ((envelope : Envelope) → ¬ IsCandidate file.bytes envelope) → (f : File)
      (envelope : Envelope) → Contains (files ++ file ∷ []) f → IsCandidate f.bytes envelope
      → Contains found envelope
  passed_all none f envelope among is = ⊎_elim (λ before. are.all f envelope before is)
      (λ last. ⊎_elim (λ same. absurd
      (none envelope (subst (λ (g : File). IsCandidate g.bytes envelope) (sym same) is)))
      (λ later. absurd (in_none f later)) (in_cases file [] f last))
      (Contains-append_cases files (file ∷ []) f among)

  pub passed : ((envelope : Envelope) → ¬ IsCandidate file.bytes envelope)
      → AreRead (files ++ file ∷ []) found
  passed none = record {
    each = λ e among. let f = are.each e among in
        (f.0, Contains-append_left files (file ∷ []) f.0 f.1, f.2);
    all = passed_all none;
    most = λ n h. let parts = sum_last HasEnvelope files file n h in
        omega (arith, are.most parts.0 parts.2, parts.4);
  }

  module _ (new : Envelope) (is : IsCandidate file.bytes new) where
    added_each : (e : Envelope) → Contains (found ++ new ∷ []) e → (f : File)
        × Contains (files ++ file ∷ []) f × IsCandidate f.bytes e
    added_each e among = ⊎_elim (λ before. let f = are.each e before in
        (f.0, Contains-append_left files (file ∷ []) f.0 f.1, f.2))
        (λ last. ⊎_elim (λ same. (
          file,
          Contains-append_right files (file ∷ []) file
              (in_head file []),
          subst (IsCandidate file.bytes) same is,
        ))
        (λ later. absurd (in_none e later)) (in_cases new [] e last))
        (Contains-append_cases found (new ∷ []) e among)

    added_all : (f : File) (envelope : Envelope) → Contains (files ++ file ∷ []) f
        → IsCandidate f.bytes envelope → Contains (found ++ new ∷ []) envelope
    added_all f envelope among h = ⊎_elim
        (λ before. Contains-append_left found (new ∷ []) envelope (are.all f envelope before h))
        (λ last. ⊎_elim (λ same. subst (Contains (found ++ new ∷ []))
        (envelope_same file.bytes new envelope is.is_envelope
        (subst (λ (g : File). EnvelopeOf g.bytes envelope) (sym same) h.is_envelope))
        (Contains-append_right found (new ∷ []) new (in_head new [])))
        (λ later. absurd (in_none f later)) (in_cases file [] f last))
        (Contains-append_cases files (file ∷ []) f among)

    signatures_in : (n : ℕ) → HasEnvelope file n → length new.signatures ≤ n
    signatures_in n h = ⊎_elim (λ x. let same = ap (λ (e : Envelope). length e.signatures)
        (envelope_same file.bytes new x.0 is.is_envelope x.1) in omega (arith, same, x.2))
        (λ none. absurd (none.0 new is.is_envelope)) h

    added_most : (n : ℕ) → IsSum HasEnvelope (files ++ file ∷ []) n
        → signature_count (found ++ new ∷ []) ≤ n
    added_most n h =
        let parts = sum_last HasEnvelope files file n h in
        let more = sum_by_push (λ (e : Envelope). length e.signatures) found new in
        omega (arith, more, are.most parts.0 parts.2, signatures_in parts.1 parts.3, parts.4)

    pub added : AreRead (files ++ file ∷ []) (found ++ new ∷ [])
    added = record { each = added_each; all = added_all; most = added_most }

-- ---- the candidates of the files at places
module _ (files : List File) (places : List ℕ) (place : ℕ) (found : List Envelope)
    (are : AreRead (files_at files places) found) where
  no_file : slice_get files place ≡ None → AreRead (files_at files (places ++ place ∷ [])) found
  no_file none = subst (λ fs. AreRead fs found)
      (sym (filter_map-append (slice_get files) places (place ∷ [])
      ∙ ap (λ o. files_at files places ++ cons_option o []) none
      ∙ append-nil (files_at files places))) are

  one_file : (file : File) → slice_get files place ≡ Some file
      → files_at files (places ++ place ∷ []) ≡ files_at files places ++ file ∷ []
  one_file file is = filter_map-append (slice_get files) places (place ∷ [])
      ∙ ap (λ o. files_at files places ++ cons_option o []) is

  added_at : (new : Envelope) → IsCandidateAt files place new
      → AreRead (files_at files (places ++ place ∷ [])) (found ++ new ∷ [])
  added_at new h = subst (λ fs. AreRead fs (found ++ new ∷ [])) (sym (one_file h.0 h.1))
      (added (files_at files places) h.0 found are new h.2)

  passed_if : (file : Option File) → slice_get files place ≡ file
      → ((envelope : Envelope) → ¬ IsCandidateAt files place envelope)
      → AreRead (files_at files (places ++ place ∷ [])) found
  passed_if None is none = no_file is
  passed_if (Some file) is none = subst (λ fs. AreRead fs found) (sym (one_file file is))
      (passed (files_at files places) file found are
      (λ envelope h. none envelope (file, is, h)))

  passed_at : ((envelope : Envelope) → ¬ IsCandidateAt files place envelope)
      → AreRead (files_at files (places ++ place ∷ [])) found
  passed_at = passed_if (slice_get files place) refl

  -- what is found at a place is kept
  pub kept_at : (next : Option Envelope) → Finds (IsCandidateAt files place) next
      → AreRead (files_at files (places ++ place ∷ [])) (found ++ cons_option next [])
  kept_at None none = subst (AreRead (files_at files (places ++ place ∷ [])))
      (sym (append-nil found)) (passed_at none)
  kept_at (Some new) is = added_at new is

-- ---- envelopes that are lent
abbrev pub shown : Bor Envelope → Envelope
shown envelope = envelope.now

-- what is found at a place is kept
pub lent_kept : (files : List File) (places : List ℕ) (place : ℕ) (found : List (Bor Envelope))
    → AreRead (files_at files places) (map shown found) → (next : Option (Bor Envelope))
    → FindsAs shown (IsCandidateAt files place) next
    → AreRead (files_at files (places ++ place ∷ [])) (map shown (found ++ cons_option next []))
lent_kept files places place found are None none =
    subst (AreRead (files_at files (places ++ place ∷ []))) (sym (map-append shown found []))
    (kept_at files places place (map shown found) are None none)
lent_kept files places place found are (Some new) is =
    subst (AreRead (files_at files (places ++ place ∷ [])))
    (sym (map-append shown found (new ∷ [])))
    (kept_at files places place (map shown found) are (Some new.now) is)

module _ (items : List (Bor Envelope)) (all : List Envelope) (are : map shown items ≡ all) where
  pub lent_length : length items ≡ length all
  lent_length = sym (length-map items shown) ∙ ap length are

  pub lent_item : (i : ℕ) (item : Bor Envelope) → i < length items → item ≡ get_or items i item
      → (i < length all) × (item.now ≡ get_or all i item.now)
  lent_item i item below is = (
    subst (λ n. i < n) lent_length below,
    ap shown is ∙ sym (get_or-map shown items i item item.now below)
        ∙ ap (λ (es : List Envelope). get_or es i item.now) are,
  )
