use Rattle.std.proofs.Common.{◌∙◌, ◌++◌, ap, codes, decimal}
use Rattle.it_json_report.specs.Json.{json_text, member}
use Rattle.it_json_report.proofs.FullForms.{three_after}
use Rattle.it_json_report.proofs.evidence_items.push_provenance.Goals as goal

pub returns : goal.returns
returns c =
    let line = codes "," ++ member (codes "line", decimal c.args.line) in
    let builder = codes "," ++ member (codes "builder", json_text c.args.builder.now) in
    let level = codes "," ++ member (codes "level", decimal c.args.level) in
    c.in_ok-push_number_member-2.ensures
    ∙ ap (λ text. text ++ level) (rw c.as_str.ensures at c.in_ok-push_text_member.ensures
    ∙ ap (λ text. text ++ builder) c.in_ok-push_number_member.ensures)
    ∙ three_after c.args.json.now.items line builder level
