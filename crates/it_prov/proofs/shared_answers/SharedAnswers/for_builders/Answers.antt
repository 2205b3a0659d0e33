use Rattle.std.proofs.Common.{◌∙◌, Some, sym}
use Rattle.it_prov.specs.inside.Shared.{answers_at}
use Rattle.it_prov.proofs.Images.{image_stands, within_images}
use Rattle.it_prov.proofs.shared_answers.SharedAnswers.for_builders.Goals as goal

pub returns : goal.returns
returns c =
    let all = c.self.inside in
    let below = within_images (answers_at all.some) all.places.now c.args.place
    c.args.self.now c.self.view_is c.requires in
    let same = c.index-self-place.is ∙ sym c.as_slice.ensures in
    image_stands (answers_at all.some) all.places.now c.args.place
    c.index-self-place.result c.args.self.now c.self.view_is below c.index-self-place.is
    ∙ (λ i. Some (answers_at all.some (same i)))
