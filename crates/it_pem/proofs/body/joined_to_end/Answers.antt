use Rattle.std.proofs.Common.{◌≡◌, ◌∙◌, ◌++◌, ◌+◌, ◌≤◌, length, length-append, arith, rules, sym}
use Rattle.it_pem.proofs.Walks.{bad_line, differs, ended, is_same, no_lines, no_room, not_ended, over, walked_first, walked_more}
use Rattle.it_pem.proofs.body.joined_to_end.Goals as goal

pub returns-in_default : goal.returns-in_default
returns-in_default c = λ all gives.
    no_lines c.args.lines c.next.new.self all gives (rw c.in_default.is at c.next.ensures.steps)

pub loop-line-init : goal.loop-line-init
loop-line-init c = record {
  is_text = search rules;
  few = rw c.new-joined.ensures (omega arith);
  walked = λ all gives. rw (c.new-joined.ensures, c.into_iter-line-iterator.ensures.into_iter_gives)
      (walked_first c.args.lines c.next.new.self c.in-Some.first all gives
      (rw c.in-Some.is at c.next.ensures.steps));
}

pub loop-line-preserved : goal.loop-line-preserved
loop-line-preserved c =
    let lines = c.loop-line.line-iterator in
    let now = c.next-in-loop-line.new.self in
    let line = c.in-Some-line.line in
    let joined = c.loop-line.joined in
    let last = c.loop-line.last.now in
    let added : c.push.new.self ≡ joined ++ last = c.push.ensures.added c.if-not-push.false in
    let room : length joined + length last ≤ 2048 = c.push.ensures.room.0 c.if-not-push.false in
    record {
      is_text = search rules;
      few = rw added (omega (arith, length-append joined last));
      walked = λ all gives. rw added (walked_more lines now line all joined last
          (c.loop-line.invariant.walked all gives) (rw c.in-Some-line.is at c.next-in-loop-line.ensures.steps)
          (sym c.is_body_line.ensures ∙ c.if-not-is_body_line.false));
    }

pub returns-then-not-is_body_line : goal.returns-then-not-is_body_line
returns-then-not-is_body_line c = λ all gives.
    bad_line c.loop-line.line-iterator c.next-in-loop-line.new.self c.in-Some-line.line all
    c.loop-line.joined c.loop-line.last.now (c.loop-line.invariant.walked all gives)
    (rw c.in-Some-line.is at c.next-in-loop-line.ensures.steps)
    (sym c.is_body_line.ensures ∙ c.if-not-is_body_line.true)

pub returns-then-not-push : goal.returns-then-not-push
returns-then-not-push c = λ all gives.
    no_room c.loop-line.line-iterator c.next-in-loop-line.new.self c.in-Some-line.line all
    c.loop-line.joined c.loop-line.last.now (c.loop-line.invariant.walked all gives)
    (rw c.in-Some-line.is at c.next-in-loop-line.ensures.steps)
    (sym c.is_body_line.ensures ∙ c.if-not-is_body_line.false)
    (over c.push.result (length c.loop-line.joined + length c.loop-line.last.now) 2048
    c.if-not-push.true c.push.ensures.room)

pub returns-then-ne : goal.returns-then-ne
returns-then-ne c = λ all gives.
    not_ended c.loop-line.line-iterator c.next-in-loop-line.new.self all
    c.loop-line.joined c.loop-line.last.now (c.loop-line.invariant.walked all gives)
    (rw c.in-None.is at c.next-in-loop-line.ensures.steps)
    (differs _ (sym c.ne.ensures ∙ c.if-ne.true))

pub returns : goal.returns
returns c = λ all gives.
    ended c.loop-line.line-iterator c.next-in-loop-line.new.self all
    c.loop-line.joined c.loop-line.last.now (c.loop-line.invariant.walked all gives)
    (rw c.in-None.is at c.next-in-loop-line.ensures.steps)
    (is_same _ (sym c.ne.ensures ∙ c.if-ne.false)) c.loop-line.invariant.few
