use Rattle.std.proofs.Common.{arith, inl, inr, sym, subst, Contains, ◌∷◌, ◌++◌, []}
use Rattle.std.proofs.lemmas.Bool.{cases_lt}
use Rattle.std.proofs.lemmas.List.Elements.{Contains-append_left, Contains-push}
use Rattle.it_prov.proofs.builders_by_id.all_places.Goals as goal

pub loop-place-preserved : goal.loop-place-preserved
loop-place-preserved c = λ place below.
    let places = c.loop-place.places.items in
    let last = c.loop-place.place in
    subst (λ ps. Contains ps place) (sym c.in_ok-push.ensures.items) (elim (cases_lt place last) [
      | inl before ↦ Contains-append_left places (last ∷ []) place (c.loop-place.invariant place before)
      | inr past ↦ subst (Contains (places ++ last ∷ [])) (omega (arith, below, past))
          (Contains-push places last)
    ])
