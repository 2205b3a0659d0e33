use Rattle.std.proofs.Common.{◌∙◌, arith, length, map, refl, sym}
use Rattle.std.proofs.lemmas.List.{length-map}
use Rattle.std.proofs.lemmas.Option.{slice_get_read}
use Rattle.it_chain.specs.inside.Places.{places_under}
use Rattle.it_chain.proofs.Candidates.{lent_item, shown}
use Rattle.it_chain.proofs.Hinted.{all_listed, named_more, none_listed, not_last, unhinted_more}
use Rattle.it_chain.proofs.hints.Hints.of.Goals as goal
use Rattle.it_chain.proofs.hints.Hints.of.Goals.{
  then-have_hint+in_ok-push,
  else-have_hint+in_ok-add_under_hints,
}

pub loop-place-init : goal.loop-place-init
loop-place-init c = none_listed (map shown c.args.envelopes.now) c.new-unhinted.result.items
    c.new-named.result c.new-unhinted.ensures.items c.new-named.ensures

pub add_under_hints-requires : goal.add_under_hints-requires
add_under_hints-requires c = λ id. not_last c.loop-place.place
    (places_under c.loop-place.named id) (c.loop-place.invariant.below id)

pub loop-place-preserved : goal.loop-place-preserved
loop-place-preserved c =
    let envelopes = map shown c.args.envelopes.now in
    let i = c.loop-place.place in
    let new = c.index-envelopes-place.result.now in
    let at = lent_item c.args.envelopes.now envelopes refl i c.index-envelopes-place.result
    c.loop-place-test.true c.index-envelopes-place.is in
    let here = slice_get_read envelopes (length envelopes) i new refl at.0 at.1 in
    let hint = rw c.as_slice-signatures.ensures at c.have_hint.ensures in
    elim c.if-have_hint.branch [
      | then-have_hint+in_ok-push w ↦
          rw (w.unhinted-is, w.named-is, w.in_ok-push.ensures.items)
          (unhinted_more envelopes i new at.0 here at.1 c.loop-place.unhinted.items
          c.loop-place.named c.loop-place.invariant (sym hint ∙ w.if-have_hint.true))
      | else-have_hint+in_ok-add_under_hints w ↦
          rw (w.unhinted-is, w.named-is)
          (named_more envelopes i new at.0 here at.1 c.loop-place.unhinted.items
          c.loop-place.named c.loop-place.invariant w.add_under_hints.new.named
          (sym hint ∙ w.if-have_hint.false)
          (rw c.as_slice-signatures.ensures at w.in_ok-add_under_hints.ensures))
    ]

pub returns : goal.returns
returns c = all_listed (map shown c.args.envelopes.now) c.loop-place.place
    (record { unhinted = c.loop-place.unhinted; named = c.loop-place.named })
    (omega (arith, length-map c.args.envelopes.now shown, c.loop-place-test.false))
    c.loop-place.invariant
