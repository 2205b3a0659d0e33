use Rattle.std.proofs.Common.{◌∙◌, ◌∷◌, [], ◌++◌, List, ℕ, ap, codes, decimal}
use Rattle.it_json_report.specs.Json.{json_text, member}
use Rattle.it_json_report.proofs.FullForms.{object_by_last, opened_by}
use Rattle.it_json_report.proofs.signer_item.push_identity.Goals as goal

pub returns : goal.returns
returns c =
    let old = c.args.json.now.items in
    let identity = json_text c.args.identity.now in
    let issuer : List ℕ × List ℕ = (codes "issuer", json_text c.args.issuer.now) in
    let time : List ℕ × List ℕ = (codes "loggedAt", decimal c.args.time) in
    let begun = rw c.as_str.ensures at c.in_ok-push_text.ensures
    ∙ ap (λ text. text ++ identity) c.in_ok-extend_from_slice.ensures.items in
    let named = rw c.as_str-2.ensures at c.in_ok-push_text_member.ensures
    ∙ ap (λ text. text ++ (codes "," ++ member issuer)) begun
    ∙ opened_by old (codes "identity") identity (codes "," ++ member issuer) in
    c.in_ok-push.ensures.items
    ∙ ap (λ text. text ++ codes "}") (c.in_ok-push_number_member.ensures
    ∙ ap (λ text. text ++ (codes "," ++ member time)) named)
    ∙ object_by_last old (codes "identity", identity) time (issuer ∷ [])
