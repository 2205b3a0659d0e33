use Rattle.std.proofs.Common.{◌∙◌, sym}
use Rattle.it_digest.proofs.ArtifactsLemmas.{same_maps, digest_set_eq-Decides}
use Rattle.it_digest.proofs.artifacts.Artifacts.same_as.Goals as goal

pub returns : goal.returns
returns c =
    let here = c.as_map.result.now.entries in
    let there = c.as_map-2.result.now.entries in
    let here_is = c.as_map.ensures.is ∙ c.self.view_is in
    let there_is = c.as_map-2.ensures.is ∙ c.other.view_is in
    let h = same_maps _ digest_set_eq-Decides here there c.eq.result c.as_map.ensures.ordered
    c.as_map-2.ensures.ordered c.eq.ensures in
    (λ r. sym here_is ∙ h.0 r ∙ there_is, λ e. h.1 (here_is ∙ e ∙ sym there_is))
