use Rattle.std.proofs.Common.{◌∙◌, ◌+◌, ◌-◌, arith, refl}
use Rattle.it_issued.proofs.Turning.{InTurn, last_in_turn, read_at, turn_over, turn_stops}
use Rattle.it_issued.proofs.authority.are_signed_in_turn.Goals as goal

pub is_signed_by-requires : goal.is_signed_by-requires
is_signed_by-requires c =
    let xs = c.args.certificates.now in
    let place = c.loop-place.place in
    record {
      certificate_read = read_at xs (place - 1) c.index-certificates-place.result c.requires (omega arith) c.index-certificates-place.is;
      issuer_read = read_at xs place c.index-certificates-place-in-loop-place.result c.requires (omega arith) c.index-certificates-place-in-loop-place.is;
    }

pub returns-then-not-branch-clause-answer : goal.returns-then-not-branch-clause-answer
returns-then-not-branch-clause-answer c =
    let xs = c.args.certificates.now in
    let place = c.loop-place.place in
    turn_stops (InTurn xs) (place - 1) place xs c.index-certificates-place.result c.index-certificates-place-in-loop-place.result
    (omega arith) (omega arith) c.index-certificates-place.is c.index-certificates-place-in-loop-place.is
    (λ by. let yes = c.in_ok-is_signed_by.ensures.answer.1 by in cc) c.loop-place.invariant.turn

pub loop-place-preserved : goal.loop-place-preserved
loop-place-preserved c =
    let xs = c.args.certificates.now in
    let place = c.loop-place.place in
    let signed = c.in_ok-is_signed_by.ensures in
    record {
      turn = turn_over (InTurn xs) (place - 1) place (place + 1 - 1) xs c.index-certificates-place.result
          c.index-certificates-place-in-loop-place.result (omega arith) (omega arith) (omega arith) c.index-certificates-place.is
          c.index-certificates-place-in-loop-place.is (signed.answer.0 c.if-not-branch.false) c.loop-place.invariant.turn;
      most = signed.most ∙ c.loop-place.invariant.most;
      grows = omega (arith, signed.grows, c.loop-place.invariant.grows);
    }

pub returns-clause-answer : goal.returns-clause-answer
returns-clause-answer c = (
  λ t. c.loop-place.invariant.turn.1 (last_in_turn (c.loop-place.place - 1) c.args.certificates.now (omega arith)),
  λ all. refl,
)
