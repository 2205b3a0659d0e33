use Rattle.std.proofs.Common.{nat_cmp}
use Rattle.std.specs.Cmp.Lexicographic.{slice_cmp}
use Rattle.std.specs.FinMap.{get, get-empty}
use Rattle.it_dsse.proofs.Places.{places_more}
use Rattle.it_findings.specs.SharedKeys.{is_key}
use Rattle.it_findings.specs.inside.FirstPlaces.{name_of}
use Rattle.it_findings.proofs.shared_keys.first_places.Goals as goal

pub loop-place-init : goal.loop-place-init
loop-place-init c = λ q. rw c.new-places.ensures (get-empty (slice_cmp nat_cmp) (name_of q))

pub loop-place-preserved : goal.loop-place-preserved
loop-place-preserved c = λ q.
    places_more is_key c.args.uses.now c.loop-place.place c.index-uses-place.result
    (λ key. get c.loop-place.places (name_of key))
    (λ key. get c.keep_first.new.places (name_of key)) c.loop-place-test.true
    c.index-uses-place.is c.loop-place.invariant c.in_ok-keep_first.ensures q
