use Rattle.std.proofs.Common.{◌∙◌, ◌∷◌, [], ◌++◌, List, ℕ, ap, codes, decimal}
use Rattle.it_json_report.specs.EvidenceReport.{set_members, signer_members}
use Rattle.it_json_report.specs.Json.{further, json_object, json_text, member}
use Rattle.it_json_report.proofs.FullForms.{object_in_two, opened_in_two}
use Rattle.it_json_report.proofs.evidence_items.push_file.Goals as goal

pub returns : goal.returns
returns c =
    let file = c.args.file.now in
    let old = c.args.json.now.items in
    let path : List ℕ × List ℕ = (codes "path", json_text file.path) in
    let digests : List (List ℕ × List ℕ) =
    (codes "digests", json_object (set_members file.digests)) ∷ [] in
    let made : List (List ℕ × List ℕ) =
    (codes "line", decimal file.line) ∷ (codes "builder", json_text file.builder)
    ∷ (codes "level", decimal file.level) ∷ [] in
    let more = signer_members file.signer in
    c.in_ok-push_signer.ensures
    ∙ ap (λ front. front ++ (further member more ++ codes "}")) (c.in_ok-push_provenance.ensures
    ∙ ap (λ front. front ++ further member made) c.in_ok-push_delivered.ensures
    ∙ opened_in_two old path digests made)
    ∙ object_in_two old path (digests ++ made) more
