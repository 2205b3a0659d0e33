use Rattle.std.proofs.Common.{◌∙◌, ◌∷◌, [], ◌++◌, ap, codes}
use Rattle.it_json_report.specs.Json.{further, json_list, json_text, member}
use Rattle.it_json_report.specs.JsonReport.{sublayout_object}
use Rattle.it_json_report.proofs.FullForms.{object_in_two}
use Rattle.it_json_report.proofs.full.push_finding.Goals as goal

pub returns : goal.returns
returns c =
    let finding = c.args.finding.now in
    let more = (codes "name", json_text finding.name) ∷ (codes "place", json_text finding.place)
    ∷ (codes "sentence", json_text finding.sentence) ∷ [] in
    let front = rw (c.as_str.ensures, c.as_slice.ensures) at c.in_ok-push_document.ensures in
    let told = rw (c.as_str-2.ensures, c.as_slice-place.ensures, c.as_slice-sentence.ensures) at
    c.in_ok-push_place.ensures in
    told ∙ ap (λ text. text ++ (further member more ++ codes "}")) front
    ∙ object_in_two c.args.json.now.items (codes "document", json_text finding.document)
    ((codes "at", json_list sublayout_object finding.at) ∷ []) more
