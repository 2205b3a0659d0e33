-- What is said of a file of a step besides that it does not count (words of this project): why it
-- is not an envelope (DSSE v1.0), for which key ids its signatures are tried (DSSE v1.0,
-- "Protocol"), or why its payload is not a link (in-toto 1.0 section 4.4).
use Rattle.std.specs.Prelude.{◌≡◌, ℕ, List, [], ◌∷◌, ◌++◌, Contains, codes, filter}
use Rattle.std.specs.List.{flat_map, list_any}
use Rattle.it_chain.specs.Contents.{Contents, files_of}
use Rattle.it_chain.specs.declared.bundle.File.{File}
use Rattle.it_docs.specs.declared.step.Step.{Step}
use Rattle.it_dsse.specs.Envelope.{EnvelopeOf}
use Rattle.it_dsse.specs.Signed.{is_admitted}
use Rattle.it_dsse.specs.declared.envelope.Envelope.{Envelope}
use Rattle.it_part_notes.specs.PartLines.{part_line}
use Rattle.it_part_notes.specs.PartNotes.{TellsEnvelope, TellsLink}
use Rattle.it_part_notes.specs.declared.part_note.PartNote.{PartNote}
use Rattle.it_report.specs.Name.{cut_form}
use Rattle.it_step_notes.specs.declared.note.Finding.{Finding}
use Rattle.it_step_notes.specs.declared.note.Finding.TheVariants.{NeitherLinkNorLayout, NoEnvelope}
use Rattle.it_step_notes.specs.declared.note.Finding.TheVariants.{NoSignature}
use Rattle.it_step_notes.specs.declared.note.StepNote.{StepNote}
use Rattle.it_step_notes.specs.declared.note.StepNote.TheVariants.{File as of_file}
use Rattle.it_notes.specs.declared.file_detail.Detail.{Detail}
use Rattle.it_notes.specs.declared.file_detail.Detail.TheVariants.{Part, Tried}
use Rattle.it_notes.specs.declared.file_detail.FileDetail.{FileDetail}

-- ---- what a detail says
-- this is why the payload of the envelope in bytes is not a link
pub record TellsPayload (bytes : List ℕ) (part : PartNote) : Type 0 where
  pub envelope : Envelope
  pub is_envelope : EnvelopeOf bytes envelope
  pub is_true : TellsLink envelope.payload part

-- the key ids of a step for which a signature of an envelope is tried
abbrev pub tried_ids : Step → Envelope → List (List ℕ)
tried_ids step envelope =
    filter (λ id. list_any (is_admitted id) envelope.signatures) step.pubkeys

-- the signatures of the envelope in bytes are tried for these key ids of a step
pub record TellsTried (step : Step) (bytes : List ℕ) (ids : List (List ℕ)) : Type 0 where
  pub envelope : Envelope
  pub is_envelope : EnvelopeOf bytes envelope
  pub ids_are : ids ≡ tried_ids step envelope

-- what is said of bytes that were found to be this for a step
abbrev pub TellsBytes : Step → Finding → List ℕ → Detail → Type 0
TellsBytes step NoEnvelope bytes (Part part) = TellsEnvelope bytes part
TellsBytes step NeitherLinkNorLayout bytes (Part part) = TellsPayload bytes part
TellsBytes step (NoSignature others) bytes (Tried ids) = TellsTried step bytes ids
TellsBytes step finding bytes detail = ⊥

-- a file of the bundle has the name, and this is true of its bytes
pub record TellsFile (bundle : Contents) (step : Step) (name : List ℕ) (finding : Finding)
    (told : FileDetail) : Type 0 where
  pub told_is : told.name ≡ name
  pub file : File
  pub stands : Contains (files_of bundle) file
  pub name_is : file.name ≡ name
  pub is_true : TellsBytes step finding file.bytes told.detail

-- the detail is one of the file that a note on a step is about
abbrev pub TellsDetail : Contents → Step → StepNote → FileDetail → Type 0
TellsDetail bundle step (of_file name finding) told = TellsFile bundle step name finding told
TellsDetail bundle step note told = ⊥

-- ---- the lines of details
abbrev pub id_form : List ℕ → List ℕ
id_form id = codes " " ++ cut_form id

-- what comes before the ids, or in their place
abbrev pub words_before : List (List ℕ) → List ℕ
words_before [] = codes "by keyid, no signature is tried for a key id of the step"
words_before (id ∷ ids) = codes "by keyid, signatures are tried for"

abbrev pub tried_form : List (List ℕ) → List ℕ
tried_form ids = words_before ids ++ flat_map id_form ids

abbrev pub detail_form : Detail → List ℕ
detail_form (Part part) = part_line part
detail_form (Tried ids) = tried_form ids ++ codes "\n"

-- the line of a detail
abbrev pub detail_line : FileDetail → List ℕ
detail_line told = cut_form told.name ++ codes ": " ++ detail_form told.detail
