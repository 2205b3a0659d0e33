use Rattle.std.proofs.Common.{◌+◌, ◌-◌, arith, map}
use Rattle.it_certificate.specs.Certificate.{facts_of}
use Rattle.it_root_notes.specs.AuthorityMisses.{Names}
use Rattle.it_root_notes.proofs.Chains.{linked}
use Rattle.it_root_notes.proofs.Standing.{all_meet, all_tell, one_meets, one_misses}
use Rattle.it_root_notes.proofs.chain.first_other_issuer.Goals as goal

pub loop-place-init : goal.loop-place-init
loop-place-init c = all_tell Names c.args.certificates.now

pub returns-then-not-names_next : goal.returns-then-not-names_next
returns-then-not-names_next c =
    let place = c.loop-place.place in
    one_misses Names (place - 1) place c.args.certificates.now c.index-certificates-place.result
    c.index-certificates-place-in-loop-place.result (omega arith) c.loop-place-test.true
    c.index-certificates-place.is c.index-certificates-place-in-loop-place.is
    c.loop-place.invariant (λ named. let yes = c.names_next.ensures.1 named in cc)

pub loop-place-preserved : goal.loop-place-preserved
loop-place-preserved c =
    let place = c.loop-place.place in
    one_meets Names (place - 1) place c.args.certificates.now c.index-certificates-place.result
    c.index-certificates-place-in-loop-place.result (omega arith) c.loop-place-test.true
    c.index-certificates-place.is c.index-certificates-place-in-loop-place.is
    c.loop-place.invariant (place + 1 - 1) (omega arith)
    (c.names_next.ensures.0 c.if-not-names_next.false)

pub returns : goal.returns
returns c =
    let place = c.loop-place.place in
    let xs = c.args.certificates.now in
    linked (map facts_of xs)
    (all_meet Names (place - 1) xs (omega arith) c.loop-place.invariant)
