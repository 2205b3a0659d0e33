-- Which layout bytes are, or which part fails first, as an answer.
use Rattle.std.proofs.Common.{◌≡◌, ℕ, ◌<◌, ◌≤◌, ℤ, List, [], ◌∷◌, ◌++◌, Bool, true, false, cond}
use Rattle.std.proofs.Common.{codes, Option, Some, None, MatchOption, is_some, Result, Ok, Err}
use Rattle.std.proofs.Common.{MatchResult, Decides, arith, lit<, refl, true≢false, sym, subst, ◌∙◌}
use Rattle.std.proofs.Common.{append-nil, append_assoc, inl, inr}
use Rattle.std.specs.FinMap.{empty}
use Rattle.std.specs.List.{IsDistinct, list_any}
use Rattle.std.specs.Result.{result_ok}
use Rattle.std.specs.Str.{bytes_eq}
use Rattle.std.proofs.lemmas.Bool.Decides.{not_from_Decides}
use Rattle.std.proofs.lemmas.Cmp.{nat_list_eq_equiv}
use Rattle.std.proofs.lemmas.Map.Keys.{IsDistinct-push}
use Rattle.serde_json.specs.Data.{Data}
use Rattle.serde_json.specs.Find.{as_object}
use Rattle.it_base.specs.Document.{IsDocument}
use Rattle.it_base.specs.Finds.{Finds}
use Rattle.it_base.specs.Parts.{IsPart, IsPartOr}
use Rattle.it_base.specs.Sequence.{IsList}
use Rattle.it_base.proofs.Decided.{or_fault, or_fault-is, part_of, part_or_of, part_or_reads}
use Rattle.it_base.proofs.Decided.{part_reads}
use Rattle.it_dsse.specs.KeyObject.{IsKeyObject}
use Rattle.it_dsse.specs.declared.key_object.KeyObject.{KeyObject}
use Rattle.it_dsse.proofs.Decided.{key_object_of, key_object_reads}
use Rattle.it_docs.specs.Layout.{IsLayout, LayoutOf}
use Rattle.it_docs.specs.LayoutPart.{LayoutPartOf, PartReads, place}
use Rattle.it_docs.specs.inside.LayoutFaults.{IsLayoutFault}
use Rattle.it_base.specs.List.{IsFirstBad, IsListOrMissing, items_at}
use Rattle.it_docs.specs.Moment.{IsMoment}
use Rattle.it_docs.specs.Repeats.{IsFirstRepeat}
use Rattle.it_docs.specs.Step.{IsInspection, IsStep, names_of}
use Rattle.it_base.specs.Table.{IsTable, Named}
use Rattle.it_docs.specs.declared.layout.Layout.{Layout}
use Rattle.it_docs.specs.declared.layout_fault.LayoutFault.TheVariants.{BadLayout}
use Rattle.it_docs.specs.declared.layout_fault.LayoutPart.{LayoutPart}
use Rattle.it_docs.specs.declared.layout_fault.LayoutPart.TheVariants.{Json, WrongType, Expires}
use Rattle.it_docs.specs.declared.layout_fault.LayoutPart.TheVariants.{Keys, Steps, Step, Inspects}
use Rattle.it_docs.specs.declared.layout_fault.LayoutPart.TheVariants.{Inspect, DuplicateName}
use Rattle.it_docs.specs.declared.step.Inspection.{Inspection}
use Rattle.it_docs.specs.declared.step.Step.{Step as LayoutStep}
use Rattle.it_docs.proofs.LayoutParts.{Below, IsHead, alone, duplicate_fault, fault_of_document}
use Rattle.it_docs.proofs.LayoutParts.{inspections_fault, steps_fault}
use Rattle.it_docs.proofs.LinkDecided.{has_text, has_text-Decides}
use Rattle.it_base.proofs.ListDecided.{numbered_of, numbered_of-is}
use Rattle.it_base.proofs.Lists.{item_fault}
use Rattle.it_docs.proofs.MomentDecided.{moment_part_of, moment_reads}
use Rattle.it_docs.proofs.PartsDecided.{data_of, data_of-finds, nothing_first, or_place_fault}
use Rattle.it_docs.proofs.PartsDecided.{or_place_fault-is}
use Rattle.it_docs.proofs.Refusals.{no_layout}
use Rattle.it_docs.proofs.StepDecided.{inspection_of, inspection_reads, step_of, step_reads}
use Rattle.it_base.proofs.TableDecided.{table_of, table_reads}

-- ---- names

abbrev repeat_from : List (List ℕ) → List (List ℕ) → Option (List ℕ)
repeat_from front [] = None
repeat_from front (name ∷ rest) = cond (list_any (bytes_eq name) front) (Some name)
    (repeat_from (front ++ name ∷ []) rest)

-- decides `IsDistinct` and `IsFirstRepeat`
abbrev first_repeat : List (List ℕ) → Option (List ℕ)
first_repeat names = repeat_from [] names

abbrev IsRepeat : List (List ℕ) → Option (List ℕ) → Type 0
IsRepeat names found = MatchOption found (IsDistinct bytes_eq names) (IsFirstRepeat names)

here_or_later : (names front : List (List ℕ)) (name : List ℕ) (rest : List (List ℕ))
    (later : Option (List ℕ)) → names ≡ front ++ name ∷ rest → IsDistinct bytes_eq front
    → (list_any (bytes_eq name) front ≡ false → IsRepeat names later) → (b : Bool)
    → list_any (bytes_eq name) front ≡ b → IsRepeat names (cond b (Some name) later)
here_or_later names front name rest later e distinct go_on true seen = record {
  front = front;
  rest = rest;
  names_are = e;
  front_differ = distinct;
  stood_before = seen;
}
here_or_later names front name rest later e distinct go_on false new = go_on new

repeat_from-is : (names front rest : List (List ℕ)) → names ≡ front ++ rest
    → IsDistinct bytes_eq front → IsRepeat names (repeat_from front rest)
repeat_from-is names front [] e distinct = subst (IsDistinct bytes_eq) (sym (e ∙ append-nil front))
    distinct
repeat_from-is names front (name ∷ rest) e distinct =
    here_or_later names front name rest (repeat_from (front ++ name ∷ []) rest) e distinct
    (λ new. repeat_from-is names (front ++ name ∷ []) rest
    (e ∙ sym (append_assoc front (name ∷ []) rest))
    (IsDistinct-push nat_list_eq_equiv front name distinct new))
    (list_any (bytes_eq name) front) refl

first_repeat-is : (names : List (List ℕ)) → IsRepeat names (first_repeat names)
unfolding IsDistinct
first_repeat-is names = repeat_from-is names [] names refl tt

-- ---- the parts, in their order

module _ (expires : ℤ) (keys : Named KeyObject) (steps : List LayoutStep)
    (inspections : List Inspection) where
  abbrev layout_where : (found : Option (List ℕ)) → IsRepeat (names_of steps inspections) found
      → Result Layout LayoutPart
  layout_where None differ = Ok (record {
    expires = expires;
    keys = keys;
    steps = steps;
    inspections = inspections;
    names_differ =
        differ;
  })
  layout_where (Some name) repeat = Err (DuplicateName name)

  abbrev layout_with : Result Layout LayoutPart
  layout_with = layout_where (first_repeat (names_of steps inspections))
      (first_repeat-is (names_of steps inspections))

module _ (d : Data) where
  abbrev inspections_next : ℤ → Named KeyObject → List LayoutStep → Result Layout LayoutPart
  inspections_next expires keys steps =
      or_place_fault (numbered_of inspection_of (codes "inspect") d) Inspects Inspect
      (layout_with expires keys steps)

  abbrev steps_next : ℤ → Named KeyObject → Result Layout LayoutPart
  steps_next expires keys = or_place_fault (numbered_of step_of (codes "steps") d) Steps Step
      (inspections_next expires keys)

  abbrev keys_next : ℤ → Result Layout LayoutPart
  keys_next expires = or_fault (part_or_of (table_of key_object_of) empty (codes "keys") d) Keys
      (steps_next expires)

  abbrev expires_next : Result Layout LayoutPart
  expires_next = or_fault (part_of moment_part_of (codes "expires") d) Expires keys_next

  abbrev type_next : Result Layout LayoutPart
  type_next = cond (has_text (codes "_type") (codes "layout") d) expires_next (Err WrongType)

  -- decides `IsLayout` and `IsLayoutFault`
  abbrev layout_at : Result Layout LayoutPart
  layout_at = cond (is_some (as_object d)) type_next (Err Json)

  abbrev IsBad : LayoutPart → Type 0
  IsBad part = IsLayoutFault d (BadLayout part)

  abbrev IsAnswer : Result Layout LayoutPart → Type 0
  IsAnswer read = MatchResult read (IsLayout d) IsBad

  -- the first four parts, as far as they are known
  first_rows : (r : ℕ) → r ≤ 3 → (0 < r → PartReads d Json) → (1 < r → PartReads d WrongType)
      → (2 < r → PartReads d Expires) → Below (PartReads d) r
  first_rows r most json wrong_type expires = record {
    json = json;
    wrong_type = wrong_type;
    expires = expires;
    keys = λ h. absurd (omega arith);
    steps = λ h. absurd (omega arith);
    step = λ h. absurd (omega arith);
    inspects = λ h. absurd (omega arith);
    inspect = λ h. absurd (omega arith);
  }

  module _ (expires : ℤ) (keys : Named KeyObject)
      (is_expires : IsPart IsMoment (codes "expires") d expires)
      (is_keys : IsPartOr (IsTable IsKeyObject) empty (codes "keys") d keys)
      (json : PartReads d Json) (is_type : PartReads d WrongType) where
    head : IsHead d
    head = record {
      json = json;
      wrong_type = is_type;
      expires = (expires, is_expires);
      keys = (keys, is_keys);
    }

    module _ (steps : List LayoutStep)
        (is_steps : IsPartOr (IsList IsStep) [] (codes "steps") d steps) where
      last_is : (inspections : List Inspection) → IsPartOr (IsList IsInspection) []
          (codes "inspect") d inspections
          → (found : Option (List ℕ)) (repeat : IsRepeat (names_of steps inspections) found)
          → IsAnswer (layout_where expires keys steps inspections found repeat)
      last_is inspections is None differ = record {
        type_is = is_type;
        expires = is_expires;
        keys = is_keys;
        steps = is_steps;
        inspections =
            is;
      }
      last_is inspections is (Some name) repeat =
          duplicate_fault d head steps inspections is_steps is name repeat

      inspections_are : IsAnswer (inspections_next expires keys steps)
      inspections_are =
          or_place_fault-is (IsPartOr (IsList IsInspection) [] (codes "inspect") d)
          (IsLayout d) IsBad
          (¬ IsListOrMissing (codes "inspect") d) (λ n. MatchOption (items_at (codes "inspect") d) ⊥
          (λ items. IsFirstBad IsInspection items n))
          (numbered_of inspection_of (codes "inspect") d) Inspects Inspect _
          (numbered_of-is IsInspection inspection_of inspection_reads (codes "inspect") d)
          (λ h. inspections_fault d head steps is_steps (BadLayout Inspects) (inl (refl, h)))
          (λ n h. inspections_fault d head steps is_steps (BadLayout (Inspect n))
          (inr (n, refl, item_fault IsInspection (codes "inspect") d n h)))
          (λ inspections is. last_is inspections is (first_repeat (names_of steps inspections))
          (first_repeat-is (names_of steps inspections)))

    steps_are : IsAnswer (steps_next expires keys)
    steps_are =
        or_place_fault-is (IsPartOr (IsList IsStep) [] (codes "steps") d) (IsLayout d) IsBad
        (¬ IsListOrMissing (codes "steps") d) (λ n. MatchOption (items_at (codes "steps") d) ⊥
        (λ items. IsFirstBad IsStep items n)) (numbered_of step_of (codes "steps") d) Steps Step
        _
        (numbered_of-is IsStep step_of step_reads (codes "steps") d)
        (λ h. steps_fault d head (BadLayout Steps) (inl (refl, h)))
        (λ n h. steps_fault d head (BadLayout (Step n))
        (inr (n, refl, item_fault IsStep (codes "steps") d n h)))
        inspections_are

  module _ (json : PartReads d Json) where
    expires_is : PartReads d WrongType → IsAnswer expires_next
    expires_is is_type =
        or_fault-is (IsPart IsMoment (codes "expires") d) (IsLayout d) IsBad
        (part_of moment_part_of (codes "expires") d) Expires keys_next
        (part_reads IsMoment moment_part_of moment_reads (codes "expires") d)
        (λ none. record {
          fails = λ reads. none reads.0 reads.1;
          before =
              alone (PartReads d) 2 (lit< tt) (first_rows 2 (omega arith) (λ _. json) (λ _. is_type)
              (λ h. absurd (omega arith)));
        })
        (λ expires is_expires.
        or_fault-is (IsPartOr (IsTable IsKeyObject) empty (codes "keys") d) (IsLayout d) IsBad
        (part_or_of (table_of key_object_of) empty (codes "keys") d) Keys (steps_next expires)
        (part_or_reads (IsTable IsKeyObject) (table_of key_object_of)
        (table_reads IsKeyObject key_object_of key_object_reads) empty (codes "keys") d)
        (λ none. record {
          fails = λ reads. none reads.0 reads.1;
          before =
              alone (PartReads d) 3 (lit< tt) (first_rows 3 (omega arith) (λ _. json) (λ _. is_type)
              (λ _. (expires, is_expires)));
        })
        (λ keys is_keys. steps_are expires keys is_expires is_keys json is_type))

    type_is : (b : Bool) → Decides b (PartReads d WrongType)
        → IsAnswer (cond b expires_next (Err WrongType))
    type_is true h = expires_is (h.0 refl)
    type_is false h = record {
      fails = not_from_Decides false h refl;
      before = alone (PartReads d) 1 (lit< tt)
          (first_rows 1 (omega arith) (λ _. json) (λ h. absurd (omega arith))
          (λ h. absurd (omega arith)));
    }

  json_is : (b : Bool) → is_some (as_object d) ≡ b → IsAnswer (cond b type_next (Err Json))
  json_is true e = type_is e (has_text (codes "_type") (codes "layout") d)
      (has_text-Decides (codes "_type") (codes "layout") d)
  json_is false e = record {
    fails = λ h. true≢false (sym h ∙ e);
    before = alone (PartReads d) 0 (lit< tt) (first_rows 0 (omega arith) (λ h. absurd (omega arith))
        (λ h. absurd (omega arith)) (λ h. absurd (omega arith)));
  }

-- decides `LayoutOf` and `LayoutPartOf`
pub layout_result : List ℕ → Result Layout LayoutPart
layout_result bytes = or_fault (data_of bytes) Json layout_at

of_document : (bytes : List ℕ) (d : Data) → IsDocument bytes d → (read : Result Layout LayoutPart)
    → IsAnswer d read → MatchResult read (LayoutOf bytes) (LayoutPartOf bytes)
of_document bytes d is (Ok layout) h = (d, is, h)
of_document bytes d is (Err part) h = fault_of_document bytes d part is h

pub layout_result-is : (bytes : List ℕ) → MatchResult (layout_result bytes) (LayoutOf bytes)
    (LayoutPartOf bytes)
unfolding layout_result
layout_result-is bytes =
    or_fault-is (IsDocument bytes) (LayoutOf bytes) (LayoutPartOf bytes) (data_of bytes) Json
    layout_at (data_of-finds bytes)
    (λ none. record {
      fails = λ reads. none reads.0 reads.1;
      before = λ other less. absurd
          (nothing_first (place other) less);
    })
    (λ d is. of_document bytes d is (layout_at d) (json_is d (is_some (as_object d)) refl))

-- decides `LayoutOf`
pub layout_of : List ℕ → Option Layout
layout_of bytes = result_ok (layout_result bytes)

pub layout_of-finds : (bytes : List ℕ) → Finds (LayoutOf bytes) (layout_of bytes)
unfolding layout_of
layout_of-finds bytes = go (layout_result bytes) (layout_result-is bytes)
  where
    go : (read : Result Layout LayoutPart) → MatchResult read (LayoutOf bytes) (LayoutPartOf bytes)
        → Finds (LayoutOf bytes) (result_ok read)
    go (Ok layout) h = h
    go (Err part) h = no_layout bytes part h
