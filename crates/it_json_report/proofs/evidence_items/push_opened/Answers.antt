use Rattle.std.proofs.Common.{◌∙◌, ◌++◌, ap, codes}
use Rattle.it_json_report.specs.Json.{json_text, member}
use Rattle.it_json_report.proofs.FullForms.{opened_by}
use Rattle.it_json_report.proofs.evidence_items.push_opened.Goals as goal

pub returns : goal.returns
returns c =
    let text = json_text c.args.moment.now in
    let next = codes "," ++ member (codes "policy", json_text c.args.policy.now) in
    c.in_ok-push_text_member.ensures
    ∙ ap (λ front. front ++ next) (c.in_ok-push_text.ensures
    ∙ ap (λ front. front ++ text) c.in_ok-extend_from_slice.ensures.items)
    ∙ opened_by c.args.json.now.items (codes "moment") text next
