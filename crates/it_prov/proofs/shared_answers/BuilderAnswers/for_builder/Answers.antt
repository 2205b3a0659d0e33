use Rattle.std.proofs.Common.{get_or}
use Rattle.std.proofs.lemmas.List.{get_or_default}
use Rattle.it_prov.specs.inside.Shared.{answer_at}
use Rattle.it_prov.proofs.Images.{image_stands, within_images}
use Rattle.it_prov.proofs.shared_answers.BuilderAnswers.for_builder.Goals as goal

pub returns : goal.returns
returns c =
    let one = c.self.inside in
    let below = within_images (answer_at one.some.now) one.places.now c.args.index
    c.args.self.now c.self.view_is c.requires in
    rw c.at.ensures (image_stands (answer_at one.some.now) one.places.now c.args.index
    (get_or one.places.now c.args.index 0) c.args.self.now c.self.view_is below
    (get_or_default one.places.now c.args.index 0 _ below))
