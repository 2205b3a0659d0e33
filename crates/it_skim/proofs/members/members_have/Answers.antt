use Rattle.std.proofs.Common.{◌≡◌, ◌∙◌, Some, None, ap, bytes_eq, cond, sym, subst, true, false}
use Rattle.json.specs.Json.{Json, value}
use Rattle.json.proofs.Found.{Some_inj, not_found}
use Rattle.json.proofs.Grammar.{left_none, left_some}
use Rattle.it_skim.specs.inside.Reading.{below}
use Rattle.it_skim.proofs.Walking.{SoFar, all_read, no_more, no_value, none_so_far, one_more}
use Rattle.it_skim.proofs.members.members_have.Goals as goal

pub loop-next-init : goal.loop-next-init
loop-next-init c = record {
  seen = None;
  so_far = none_so_far c.args.name.now c.args.reader.now;
  is = (λ yes. absurd (cc yes), λ e. not_found _ e);
}

pub returns-in_default : goal.returns-in_default
returns-in_default c =
    let l = c.loop-next in
    no_more c.args.name.now c.args.reader.now l.reader l.invariant.seen l.invariant.so_far
    c.in_default.ensures.value

pub returns-in_default-next : goal.returns-in_default-next
returns-in_default-next c =
    let l = c.loop-next in
    let all = all_read c.args.name.now c.args.reader.now l.reader l.invariant.seen
    l.invariant.so_far c.next_key.new.self (rw c.in_default-next.is at c.in-Ok.ensures.value) in (
      all.0,
      all.1,
      (λ yes. all.2 ∙ l.invariant.is.0 yes, λ e. l.invariant.is.1 (sym all.2 ∙ e)),
    )

pub returns-in_default-2 : goal.returns-in_default-2
returns-in_default-2 c =
    let l = c.loop-next in
    no_value c.args.name.now c.args.reader.now l.reader l.invariant.seen l.invariant.so_far
    c.in-Some.key.now c.next_key.new.self (rw c.in-Some.is at c.in-Ok.ensures.value)
    (rw c.in_default-2.is at c.in_ok-is.ensures)

pub loop-next-preserved-then-eq : goal.loop-next-preserved-then-eq
loop-next-preserved-then-eq c =
    let l = c.loop-next in
    let name = c.args.name.now in
    let old = c.args.reader.now in
    let key = c.in-Some.key.now in
    let new = c.is_text.new.reader in
    let is = rw c.in-Some-2.is at c.in_ok-is.ensures in
    let same : bytes_eq key name ≡ true = sym c.eq.ensures ∙ c.if-eq.true in
    let more = one_more name old l.reader l.invariant.seen l.invariant.so_far key
    c.next_key.new.self new is.0 (rw c.in-Some.is at c.in-Ok.ensures.value) is.1 is.2 in
    record {
      seen = Some is.0;
      so_far = subst (λ b. SoFar name old new (cond b (Some is.0) l.invariant.seen)) same more;
      is = (
        λ yes. ap (λ (j : Json). Some j) (is.3.0 yes),
        λ e. is.3.1 (Some_inj _ _ e),
      );
    }

pub returns-in_default-skip_value : goal.returns-in_default-skip_value
returns-in_default-skip_value c =
    let l = c.loop-next in
    no_value c.args.name.now c.args.reader.now l.reader l.invariant.seen l.invariant.so_far
    c.in-Some.key.now c.next_key.new.self (rw c.in-Some.is at c.in-Ok.ensures.value)
    (left_none (value below c.next_key.new.self) c.in_default-skip_value.ensures.value)

pub loop-next-preserved : goal.loop-next-preserved
loop-next-preserved c =
    let l = c.loop-next in
    let name = c.args.name.now in
    let old = c.args.reader.now in
    let key = c.in-Some.key.now in
    let new = c.skip_value.new.self in
    let read = left_some (value below c.next_key.new.self) new c.in-Ok-skip_value.ensures.value in
    let other : bytes_eq key name ≡ false = sym c.eq.ensures ∙ c.if-eq.false in
    let more = one_more name old l.reader l.invariant.seen l.invariant.so_far key
    c.next_key.new.self new read.0 (rw c.in-Some.is at c.in-Ok.ensures.value) read.1
    c.in-Ok-skip_value.ensures.shorter in
    record {
      seen = l.invariant.seen;
      so_far = subst (λ b. SoFar name old new (cond b (Some read.0) l.invariant.seen)) other more;
      is = l.invariant.is;
    }
