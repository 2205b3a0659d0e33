-- What a sublayout stands for.
use Rattle.std.proofs.Common.{◌≡◌, List, [], ◌∷◌, ◌++◌, refl, ap, ◌∙◌}
use Rattle.it_digest.specs.Artifacts.{ArtifactMap}
use Rattle.it_chain.specs.Summary.{last_products, summary}
use Rattle.it_chain.specs.declared.chain.StepResult.{StepResult}

last_of : (before : ArtifactMap) (results : List StepResult) (last : StepResult)
    → last_products before (results ++ (last ∷ [])) ≡ last.products
last_of before [] last = refl
last_of before (r ∷ rs) last = last_of r.products rs last

pub summary_between : (results : List StepResult) (first last : StepResult) (between : List StepResult)
    → results ≡ (first ∷ between) ++ (last ∷ [])
    → summary results ≡ record { materials = first.materials; products = last.products }
summary_between results first last between split =
    ap summary split ∙ (λ i. record {
      materials = first.materials;
      products = last_of first.products between last i;
    })
