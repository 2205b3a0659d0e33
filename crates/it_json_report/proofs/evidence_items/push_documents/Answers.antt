use Rattle.std.proofs.Common.{◌∙◌, ◌∷◌, [], ◌++◌, ap, codes}
use Rattle.it_json_report.specs.EvidenceReport.{json_digits}
use Rattle.it_json_report.specs.Json.{further, json_text, member}
use Rattle.it_json_report.proofs.FullForms.{opened_in_two}
use Rattle.it_json_report.proofs.evidence_items.push_documents.Goals as goal

pub returns : goal.returns
returns c =
    let evidence = c.args.evidence.now in
    let more = (codes "layout", json_digits evidence.layout)
    ∷ (codes "expires", json_text evidence.expires) ∷ [] in
    c.in_ok-push_layout.ensures
    ∙ ap (λ front. front ++ further member more) c.in_ok-push_policy.ensures
    ∙ opened_in_two c.args.json.now.items (codes "moment", json_text evidence.moment)
    ((codes "policy", json_digits evidence.policy) ∷ []) more
