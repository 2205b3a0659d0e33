-- What the inspections recorded, one after another.
use Rattle.std.proofs.Common.{◌≡◌, ◌<◌, ◌++◌, ℕ, suc, List, ◌∷◌, Option, Some, None, Ok, Err}
use Rattle.std.proofs.Common.{length, take, drop, get_or, inl, inr, sym, ap, subst, ◌∙◌}
use Rattle.std.specs.List.{AllZip}
use Rattle.std.proofs.Math.Seq.{split_at}
use Rattle.it_base.specs.Places.{IsFirst}
use Rattle.it_docs.specs.declared.link.Link.{Link}
use Rattle.it_docs.specs.declared.step.Inspection.{Inspection}
use Rattle.it_verify.specs.Inspections.{record_at, RecordFails}
use Rattle.it_verify.specs.inside.Inspections.{IsRecord}
use Rattle.it_verify.specs.Inspections.{HasRecorded}
use Rattle.it_verify.specs.inside.Failures.{RefusedAs}
use Rattle.it_verify.specs.declared.failure.Failure.{Failure}
use Rattle.it_verify.specs.declared.failure.Failure.TheVariants.{Refused, OutOfMemory}
use Rattle.it_verify.specs.declared.inputs.Inputs.{Inputs}
use Rattle.it_verify.proofs.EvidenceClear.{no_record}
use Rattle.it_verify.proofs.Evident.{reads_it, some_record}
use Rattle.it_verify.proofs.Failures.{fails_at}

module _ (inputs : Inputs) (inspection : Inspection) where
  -- the first record of an inspection's name is a link of that name
  pub has_recorded : (found : Option (List ℕ)) (link : Link)
      → found ≡ record_at inspection.name inputs → IsRecord inspection.name found (Ok link)
      → HasRecorded inputs inspection link
  has_recorded None link is h = absurd h
  has_recorded (Some bytes) link is h = record {
    bytes = bytes;
    is_first = sym is;
    reads = h.0;
    name_is = h.1;
  }

  -- there is none, or it is none
  pub record_fails : (found : Option (List ℕ)) (e : Failure)
      → found ≡ record_at inspection.name inputs → IsRecord inspection.name found (Err e)
      → RefusedAs (RecordFails inputs inspection) e
  record_fails None (Refused refusal) is h = inl (sym is, h)
  record_fails None OutOfMemory is h = tt
  record_fails (Some bytes) (Refused refusal) is h =
      inr (
        some_record inputs inspection bytes (sym is),
        λ link has. h.0 link (reads_it inputs inspection bytes (sym is) link has, has.name_is),
        h.1,
      )
  record_fails (Some bytes) OutOfMemory is h = tt

-- the first inspection that lacks its record
pub first_record_fails : (inputs : Inputs) (inspections : List Inspection) (i : ℕ)
    (inspection : Inspection) (links : List Link) (e : Failure) → i < length inspections
    → inspection ≡ get_or inspections i inspection
    → AllZip (HasRecorded inputs) (take i inspections) links
    → RefusedAs (RecordFails inputs inspection) e
    → RefusedAs (IsFirst (RecordFails inputs) inspections) e
first_record_fails inputs inspections i inspection links e below is before fails =
    let rest = drop (suc i) inspections in
    let all : inspections ≡ take i inspections ++ inspection ∷ rest =
    split_at inspections i inspection below ∙ ap (λ x. take i inspections ++ x ∷ rest)
    (sym is) in
    subst (λ xs. RefusedAs (IsFirst (RecordFails inputs) xs) e) (sym all)
    (fails_at (RecordFails inputs) (take i inspections) inspection rest e
    (no_record inputs (take i inspections) links before) fails)
