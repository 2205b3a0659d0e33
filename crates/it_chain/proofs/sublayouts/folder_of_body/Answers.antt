use Rattle.std.proofs.Common.{◌≡◌, ◌∙◌, ap, unwrap_or}
use Rattle.it_chain.specs.Contents.{empty, folder_at}
use Rattle.it_chain.specs.Sublayouts.{folder_name}
use Rattle.it_chain.proofs.Walks.{folder_or}
use Rattle.it_chain.proofs.sublayouts.folder_of_body.Goals as goal

pub returns : goal.returns
returns c =
    let links = c.args.links.now in
    let name : c.as_str.result.now ≡ folder_name c.args.at.now.step.now c.args.at.now.id.now =
    c.as_str.ensures.value ∙ c.in_ok-name.ensures in
    ap (λ r. r.now) c.unwrap_or.ensures
    ∙ folder_or c.dir.result _ (folder_at c.as_str.result.now links) c.dir.ensures c.requires
    ∙ ap (λ n. unwrap_or (folder_at n links) empty) name
