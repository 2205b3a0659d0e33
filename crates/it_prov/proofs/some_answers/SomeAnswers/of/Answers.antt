use Rattle.std.proofs.Common.{◌∙◌, ◌<◌, IsSome, length, nat_cmp, ◌++◌, ◌∷◌, [], Contains, ap, get_or, inl, inr, refl, subst, sym, take}
use Rattle.std.proofs.Common.{take_all}
use Rattle.std.specs.BTreeMap.{get}
use Rattle.std.proofs.lemmas.List.{take_more}
use Rattle.std.proofs.lemmas.List.Elements.{Contains-push_cases}
use Rattle.it_base.proofs.Members.{in_none}
use Rattle.it_prov.proofs.Sharing.{all_answered, none_held}
use Rattle.it_prov.proofs.some_answers.SomeAnswers.of.Goals as goal

pub loop-place-init : goal.loop-place-init
loop-place-init g c =
    let panel = g.C.Checks.panel c.args.checks.now in
    record {
      hold = none_held panel c.args.envelope.now c.args.asked.now.builders.items _
          (λ place. rw c.new.ensures.empty refl) refl;
      asked = λ place among below. absurd (in_none place among);
    }

pub ask-requires : goal.ask-requires
ask-requires g c = rw c.as_slice.ensures.value c.loop-place.invariant.hold

pub loop-place-preserved : goal.loop-place-preserved
loop-place-preserved g c =
    let places = c.as_slice-place-items.result.now in
    let i = c.loop-place.place-index in
    record {
      hold = rw c.as_slice.ensures.value at c.in_ok-ask.ensures.hold;
      asked = λ place among below. elim (Contains-push_cases (take i places) (get_or places i 0)
          place (subst (λ ps. Contains ps place)
          (take_more places i 0 c.loop-place-test.true) among)) [
            | inl before ↦ c.in_ok-ask.ensures.kept place (c.loop-place.invariant.asked place before below)
            | inr here ↦ subst (λ p. p < length c.as_slice.result.now
                → IsSome (get nat_cmp c.ask.new.self.by_place p)) here c.in_ok-ask.ensures.has
                (rw c.as_slice.ensures.value below)
          ];
    }

pub returns : goal.returns
returns g c =
    let panel = g.C.Checks.panel c.args.checks.now in
    let places = c.as_slice-place-items.result.now in
    let whole = take_all c.loop-place.place-index places c.loop-place-test.false in
    all_answered panel c.args.envelope.now c.args.asked.now.builders.items c.in_ok-places.places.items
    c.loop-place.answers c.in_ok-places.ensures c.loop-place.invariant.hold
    (λ place among. c.loop-place.invariant.asked place
    (subst (λ ps. Contains ps place) (sym c.as_slice-place-items.ensures.value ∙ sym whole) among))
