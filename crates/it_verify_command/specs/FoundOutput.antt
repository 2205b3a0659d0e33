-- What is found by a strict verification, as it is told in a form (this profile's choice).
use Rattle.std.specs.Prelude.{ℕ, List, Option, [], ◌≡◌, ◌++◌, codes, map}
use Rattle.std.specs.Io.KnownBytes.{Appends}
use Rattle.std.specs.List.{flat_map}
use Rattle.it_base.specs.Writing.{AppendsBeginning}
use Rattle.it_json_report.specs.FullReport.{findings_json_of}
use Rattle.it_json_report.specs.declared.full.ReportFinding.{ReportFinding}
use Rattle.it_nonces.specs.declared.shared.SharedNonce.{SharedNonce}
use Rattle.it_strict.specs.FoundText.{found_text, untied_sentence}
use Rattle.it_strict.specs.ListedOnceText.{list_document, once_sentence}
use Rattle.it_strict.specs.NonceText.{keys_at, keys_document, keys_pointer, nonce_sentence}
use Rattle.it_strict.specs.declared.found.Found.{Found}
use Rattle.it_strict.specs.declared.listed_once.ListedOnce.{ListedOnce}
use Rattle.it_verify_command.specs.FullOutput.{shown_below, shown_finding}
use Rattle.it_verify_command.specs.declared.output_form.OutputForm.{OutputForm}
use Rattle.it_verify_command.specs.declared.output_form.OutputForm.TheVariants.{Full, Report}
use Rattle.it_verify_command.specs.declared.output_form.OutputForm.TheVariants.{Summary}

-- a delivered file that is tied to no step, as it is written
abbrev pub shown_untied : List ℕ → ReportFinding
shown_untied path = record {
  document = codes "policy";
  at = [];
  name = codes "untied-file";
  place = codes "/deliver";
  sentence = untied_sentence path;
}

-- a path that one digest list alone names, as it is written: a list has no places, and the empty
-- JSON pointer is for the whole of it
abbrev pub shown_once : ListedOnce → ReportFinding
shown_once once = record {
  document = list_document once.list;
  at = [];
  name = codes "listed-once";
  place = [];
  sentence = once_sentence once;
}

-- two keys that signed with one nonce, as they are written: at the keys of the one that comes later
abbrev pub shown_nonce : SharedNonce → ReportFinding
shown_nonce shared = record {
  document = keys_document shared.signer.role;
  at = keys_at shared.signer.role;
  name = codes "shared-nonce";
  place = keys_pointer shared.signer.role;
  sentence = nonce_sentence shared;
}

-- all that is found, as it is written: in the policy, in the layout, in the sublayouts, then the
-- files that are tied to no step, the paths that one digest list alone names, and then the nonces
-- that are shared
abbrev pub found_shown : Found → List ReportFinding
found_shown found =
    map (shown_finding []) found.of_policy ++ map (shown_finding []) found.of_layout
    ++ flat_map shown_below found.of_sublayouts ++ map shown_untied found.untied
    ++ map shown_once found.listed_once ++ map shown_nonce found.shared_nonces

-- all that is found, as a text: in the full form one JSON object, and otherwise lines
abbrev pub found_in : OutputForm → Found → List ℕ
found_in (Report form) found = found_text found
found_in Full found = findings_json_of (found_shown found)
found_in (Summary names) found = found_text found

-- the text is told: in the full form it went out, and no note was written; otherwise it was
-- written to the notes, or a beginning of it
abbrev pub AreTold : OutputForm → (old new before after : Option (List ℕ)) → List ℕ → Type 0
AreTold (Report form) old new before after text = AppendsBeginning before after text
AreTold Full old new before after text = Appends old new text × (after ≡ before)
AreTold (Summary names) old new before after text = AppendsBeginning before after text
