use Rattle.std.proofs.Common.{◌∙◌}
use Rattle.std.proofs.lemmas.Result.{IfOk-weaker}
use Rattle.it_digest.proofs.artifacts.Artifacts.copy.Goals as goal

pub returns : goal.returns
returns c = IfOk-weaker c.map_of.result _ _ (λ copy h. h ∙ c.as_map.ensures.is ∙ c.self.view_is)
    c.map_of.ensures
