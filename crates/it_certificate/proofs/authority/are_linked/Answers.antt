use Rattle.std.proofs.Common.{◌+◌, ◌-◌, map, arith, refl}
use Rattle.it_certificate.specs.Authority.{AreLinked}
use Rattle.it_certificate.specs.Certificate.{facts_of}
use Rattle.it_certificate.proofs.Chaining.{link_over, link_stops, last_linked}
use Rattle.it_certificate.proofs.authority.are_linked.Goals as goal

pub returns-then-not-names_next : goal.returns-then-not-names_next
returns-then-not-names_next c =
    let xs = c.args.certificates.now in
    let place = c.loop-place.place in
    link_stops (AreLinked (map facts_of xs)) (place - 1) place xs c.index-certificates-place.result
    c.index-certificates-place-in-loop-place.result c.names_next.result (omega arith) (omega arith)
    c.index-certificates-place.is c.index-certificates-place-in-loop-place.is c.names_next.ensures c.if-not-names_next.true
    c.loop-place.invariant

pub loop-place-preserved : goal.loop-place-preserved
loop-place-preserved c =
    let xs = c.args.certificates.now in
    let place = c.loop-place.place in
    link_over (AreLinked (map facts_of xs)) (place - 1) place (place + 1 - 1) xs c.index-certificates-place.result
    c.index-certificates-place-in-loop-place.result c.names_next.result (omega arith) (omega arith) (omega arith)
    c.index-certificates-place.is c.index-certificates-place-in-loop-place.is c.names_next.ensures c.if-not-names_next.false
    c.loop-place.invariant

pub returns : goal.returns
returns c = (
  λ t. c.loop-place.invariant.1 (last_linked (c.loop-place.place - 1) c.args.certificates.now (omega arith)),
  λ all. refl,
)
