use Rattle.std.proofs.Common.{◌≡◌, ◌∙◌, ◌+◌, ◌++◌, ◌∷◌, [], List, take, drop, take_all, Contains}
use Rattle.std.proofs.Common.{true, refl, sym, ap, subst, arith, map}
use Rattle.std.proofs.lemmas.List.{take_more, take-append-drop}
use Rattle.std.proofs.lemmas.List.Elements.{Contains-append_left, Contains-get_or}
use Rattle.std.proofs.lemmas.Result.{err_from_is_err_and}
use Rattle.it_chain.specs.inside.Asked.{SignaturesIn}
use Rattle.it_dsse.specs.declared.envelope.Envelope.{Envelope}
use Rattle.it_chain.proofs.Asking.{asked_first, asked_last, asked_more, asked_stopped}
use Rattle.it_chain.proofs.Asking.{within_none}
use Rattle.it_chain.proofs.Candidates.{lent_item, lent_length, shown}
use Rattle.it_chain.proofs.SoFar.{begun, least_first, none_so_far, passed_by, repeated}
use Rattle.it_chain.proofs.SoFar.{two_of}
use Rattle.it_chain.proofs.counted_bodies.counted_among.Goals as goal
use Rattle.it_chain.proofs.counted_bodies.counted_among.Goals.{in-Some+in-None}
use Rattle.it_chain.proofs.counted_bodies.counted_among.Goals.{
  in-Some+in-Some-first+else-not-is_same_payload+in-Link-1,
}
use Rattle.it_chain.proofs.counted_bodies.counted_among.Goals.{
  in-Some+in-Some-first+else-not-is_same_payload+in-Layout-1,
}
use Rattle.it_chain.proofs.counted_bodies.counted_among.Goals.{in_default}

pub returns-in_err-signed-clause-asked : goal.returns-in_err-signed-clause-asked
returns-in_err-signed-clause-asked g c =
    let here = lent_item c.args.envelopes.now (map shown c.args.envelopes.now) refl
    c.loop-envelope.envelope-index c.envelope-item.result
    c.loop-envelope-test.true c.envelope-item.is in
    let panel = (g.C.Checking.setting c.args.walk.now.checking.now).panel in
    let p = err_from_is_err_and c.from_residual.result c.from_residual.ensures.1 in
    rw p.1 (asked_stopped panel c.args.signer.now.id.now c.args.signer.now.object.now
    (map shown c.args.envelopes.now) c.loop-envelope.envelope-index c.envelope-item.result.now
    here.0 here.1 c.args.meter.now c.loop-envelope.meter
    c.signed_body.new.meter (least_first c.loop-envelope.first) c.loop-envelope.invariant.asked
    c.signed_body.ensures.at_most)

pub returns-then-not-is_same_payload-clause-answer : goal.returns-then-not-is_same_payload-clause-answer
returns-then-not-is_same_payload-clause-answer g c =
    let here = lent_item c.args.envelopes.now (map shown c.args.envelopes.now) refl
    c.loop-envelope.envelope-index c.envelope-item.result
    c.loop-envelope-test.true c.envelope-item.is in
    let panel = (g.C.Checking.setting c.args.walk.now.checking.now).panel in
    let i = c.loop-envelope.envelope-index in
    let all = map shown c.args.envelopes.now in
    let new = c.envelope-item.result.now in
    let found = c.in-Some-first.found in
    let first = rw c.in-Some-first.is at c.loop-envelope.invariant.so_far in
    let signs = rw c.in-Some.is at c.in_ok-signed.ensures.answer in
    let before : Contains all found.envelope.now =
    subst (λ (xs : List Envelope). Contains xs found.envelope.now) (take-append-drop i all)
    (Contains-append_left (take i all) (drop i all) found.envelope.now first.is.stands) in
    let there : Contains all new = subst (Contains all) (sym here.1)
    (Contains-get_or all i new here.0) in
    two_of panel c.args.step.now c.args.signer.now.id.now c.args.signer.now.object.now all found new
    c.in-Some.key c.in-Some.body
    (record { stands = before; signed = first.is.signed })
    (record { stands = there; signed = signs })
    (λ same. let is : c.is_same_payload.result ≡ true = c.is_same_payload.ensures.1 same in cc)

pub loop-envelope-preserved : goal.loop-envelope-preserved
loop-envelope-preserved g c =
    let here = lent_item c.args.envelopes.now (map shown c.args.envelopes.now) refl
    c.loop-envelope.envelope-index c.envelope-item.result
    c.loop-envelope-test.true c.envelope-item.is in
    let panel = (g.C.Checking.setting c.args.walk.now.checking.now).panel in
    let step = c.args.step.now in
    let id = c.args.signer.now.id.now in
    let object = c.args.signer.now.object.now in
    let i = c.loop-envelope.envelope-index in
    let all = map shown c.args.envelopes.now in
    let new = c.envelope-item.result.now in
    let old = c.args.meter.now in
    let now = c.loop-envelope.meter in
    let next = c.signed_body.new.meter in
    let more : take (i + 1) all ≡ take i all ++ new ∷ [] =
    take_more all i new here.0 ∙ ap (λ x. take i all ++ x ∷ [])
    (sym here.1) in
    let one_more = asked_more panel id object all i new here.0 here.1 old now next (least_first c.loop-envelope.first)
    c.loop-envelope.invariant.asked c.in_ok-signed.ensures.asked in
    elim c.match-signed.branch [
      | in-Some+in-None w ↦
          let signs = rw w.in-Some.is at c.in_ok-signed.ensures.answer in
          rw w.first-is
          (record {
            so_far = rw more (begun panel step id object (take i all) new _ w.in-Some.key
                w.in-Some.body refl signs (rw w.in-None.is at c.loop-envelope.invariant.so_far));
            asked = asked_first panel id object all i new here.0 here.1 old now next (least_first c.loop-envelope.first)
                c.loop-envelope.invariant.asked c.in_ok-signed.ensures.asked w.in-Some.key signs.0;
          })
      | in-Some+in-Some-first+else-not-is_same_payload+in-Link-1 w ↦
          let same = w.is_same_payload.ensures.0 w.if-not-is_same_payload.false in
          rw (w.first-is, w.in-Some-first.is)
          (record {
            so_far = rw more (repeated panel step id object (take i all) new w.in-Some-first.found
                same (rw w.in-Some-first.is at c.loop-envelope.invariant.so_far));
            asked = rw w.in-Some-first.is at one_more;
          })
      | in-Some+in-Some-first+else-not-is_same_payload+in-Layout-1 w ↦
          let same = w.is_same_payload.ensures.0 w.if-not-is_same_payload.false in
          rw (w.first-is, w.in-Some-first.is)
          (record {
            so_far = rw more (repeated panel step id object (take i all) new w.in-Some-first.found
                same (rw w.in-Some-first.is at c.loop-envelope.invariant.so_far));
            asked = rw w.in-Some-first.is at one_more;
          })
      | in_default w ↦
          rw w.first-is
          (record {
            so_far = rw more (passed_by panel step id object (take i all) new c.loop-envelope.first
                (rw w.in_default.is at c.in_ok-signed.ensures.answer)
                c.loop-envelope.invariant.so_far);
            asked = one_more;
          })
    ]

pub returns-in-None-first-clause-answer : goal.returns-in-None-first-clause-answer
returns-in-None-first-clause-answer g c =
    let long = lent_length c.args.envelopes.now (map shown c.args.envelopes.now) refl in
    let all : take c.loop-envelope.envelope-index (map shown c.args.envelopes.now) ≡ map shown c.args.envelopes.now =
    take_all c.loop-envelope.envelope-index (map shown c.args.envelopes.now) (omega (arith, long, c.loop-envelope-test.false)) in
    rw (c.in-None-first.is, all) at c.loop-envelope.invariant.so_far

pub returns-in-Some-first-2-clause-answer : goal.returns-in-Some-first-2-clause-answer
returns-in-Some-first-2-clause-answer g c =
    let long = lent_length c.args.envelopes.now (map shown c.args.envelopes.now) refl in
    let all : take c.loop-envelope.envelope-index (map shown c.args.envelopes.now) ≡ map shown c.args.envelopes.now =
    take_all c.loop-envelope.envelope-index (map shown c.args.envelopes.now) (omega (arith, long, c.loop-envelope-test.false)) in
    rw (c.in-Some-first-2.is, all) at c.loop-envelope.invariant.so_far

pub loop-envelope-init : goal.loop-envelope-init
loop-envelope-init g c = record {
  so_far = none_so_far (g.C.Checking.setting c.args.walk.now.checking.now).panel c.args.step.now
      c.args.signer.now.id.now c.args.signer.now.object.now;
  asked = within_none (SignaturesIn []) c.args.meter.now c.args.meter.now refl;
}

pub returns-then-not-is_same_payload-clause-asked : goal.returns-then-not-is_same_payload-clause-asked
returns-then-not-is_same_payload-clause-asked g c =
    let here = lent_item c.args.envelopes.now (map shown c.args.envelopes.now) refl
    c.loop-envelope.envelope-index c.envelope-item.result
    c.loop-envelope-test.true c.envelope-item.is in
    let panel = (g.C.Checking.setting c.args.walk.now.checking.now).panel in
    asked_last panel c.args.signer.now.id.now c.args.signer.now.object.now (map shown c.args.envelopes.now)
    c.loop-envelope.envelope-index c.envelope-item.result.now here.0 here.1 c.args.meter.now c.loop-envelope.meter c.signed_body.new.meter
    (least_first c.loop-envelope.first) c.loop-envelope.invariant.asked
    c.in_ok-signed.ensures.asked

pub returns-in-None-first-clause-asked : goal.returns-in-None-first-clause-asked
returns-in-None-first-clause-asked g c =
    let long = lent_length c.args.envelopes.now (map shown c.args.envelopes.now) refl in
    let all : take c.loop-envelope.envelope-index (map shown c.args.envelopes.now) ≡ map shown c.args.envelopes.now =
    take_all c.loop-envelope.envelope-index (map shown c.args.envelopes.now) (omega (arith, long, c.loop-envelope-test.false)) in
    rw (c.in-None-first.is, all) at c.loop-envelope.invariant.asked

pub returns-in-Some-first-2-clause-asked : goal.returns-in-Some-first-2-clause-asked
returns-in-Some-first-2-clause-asked g c =
    let long = lent_length c.args.envelopes.now (map shown c.args.envelopes.now) refl in
    let all : take c.loop-envelope.envelope-index (map shown c.args.envelopes.now) ≡ map shown c.args.envelopes.now =
    take_all c.loop-envelope.envelope-index (map shown c.args.envelopes.now) (omega (arith, long, c.loop-envelope-test.false)) in
    rw (c.in-Some-first-2.is, all) at c.loop-envelope.invariant.asked
