use Rattle.std.proofs.Common.{◌∙◌, ap, option_map}
use Rattle.it_base.specs.JsonView.{json_of}
use Rattle.it_base.specs.TreeOf.{field_at}
use Rattle.it_base.proofs.TreesFound.{json_of_ref, json_of-lookup}
use Rattle.it_base.proofs.tree.Members.get.Goals as goal

pub returns : goal.returns
returns c =
    json_of_ref c.get.result ∙ ap (option_map json_of) c.get.ensures.value
    ∙ json_of-lookup c.args.name.now c.self.inside.by_name.entries
    ∙ ap (field_at c.args.name.now) c.self.view_is
