use Rattle.std.proofs.Common.{◌∙◌, ◌∷◌, [], ◌++◌, ap, codes}
use Rattle.it_json_report.specs.EvidenceReport.{counted_object, file_object, json_digits}
use Rattle.it_json_report.specs.Json.{further, json_list, json_text, member}
use Rattle.it_json_report.proofs.FullForms.{object_in_two}
use Rattle.it_json_report.proofs.evidence_items.push_evidence.Goals as goal

pub returns : goal.returns
returns c =
    let evidence = c.args.evidence.now in
    let more = (codes "steps", json_list counted_object evidence.steps)
    ∷ (codes "files", json_list file_object evidence.files) ∷ [] in
    rw (c.as_slice.ensures, c.as_slice-2.ensures) at c.in_ok-push_shown.ensures
    ∙ ap (λ front. front ++ (further member more ++ codes "}")) c.in_ok-push_documents.ensures
    ∙ object_in_two c.args.json.now.items (codes "moment", json_text evidence.moment)
    ((codes "policy", json_digits evidence.policy) ∷ (codes "layout", json_digits evidence.layout)
    ∷ (codes "expires", json_text evidence.expires) ∷ []) more
