use Rattle.std.proofs.Common.{◌≡◌, ◌∙◌, ℕ, Bool, IfOk, OnOk, length, ap, subst}
use Rattle.it_message.specs.Message.{joined}
use Rattle.it_dsse.specs.Meter.{raised}
use Rattle.it_public_keys.specs.OwnChecks.{own_checks}
use Rattle.it_public_keys.specs.OwnKeys.{Stands, found_number}
use Rattle.it_public_keys.proofs.Following.{tries_at, vouched_at}
use Rattle.it_vouched.specs.Check.{vouched_check}
use Rattle.it_command_checks.specs.CommandChecks.{command_checks, vouched_checks}
use Rattle.it_command_checks.proofs.Appended.{tries_first, vouched_first}
use Rattle.it_command_checks.proofs.Finding.{lines_at}
use Rattle.it_command_checks.proofs.Places.{placed}
use Rattle.it_command_checks.proofs.command_checks.CommandChecksChecks.any_valid.Goals as goal

pub returns-in-Own-clause-answer : goal.returns-in-Own-clause-answer
returns-in-Own-clause-answer c =
    let own = c.args.self.now.own in
    let checks = own_checks own.rings.items own.public_keys in
    let stands : Stands own c.in-Own.key = rw c.in-Own.is at c.requires in
    rw c.in-Own.is
    (subst (λ (answer : Bool). IfOk c.any_valid.result (λ valid. valid ≡ answer))
    (vouched_first checks (vouched_checks c.args.self.now.vouched) (found_number own c.in-Own.key)
    (placed own c.in-Own.key stands) c.args.id.now (joined c.args.message.now)
    c.args.signatures.now)
    c.any_valid.ensures.answer)

pub returns-in-Own-clause-counted : goal.returns-in-Own-clause-counted
returns-in-Own-clause-counted c =
    let own = c.args.self.now.own in
    let checks = own_checks own.rings.items own.public_keys in
    let stands : Stands own c.in-Own.key = rw c.in-Own.is at c.requires in
    rw c.in-Own.is
    (subst (λ (n : ℕ). OnOk c.any_valid.result
    (c.any_valid.new.meter ≡ raised c.args.meter.now n))
    (tries_first checks (vouched_checks c.args.self.now.vouched) (found_number own c.in-Own.key)
    (placed own c.in-Own.key stands) c.args.id.now (joined c.args.message.now)
    c.args.signatures.now)
    c.any_valid.ensures.counted)

pub returns-in-Some-clause-answer : goal.returns-in-Some-clause-answer
returns-in-Some-clause-answer c =
    let own = c.args.self.now.own in
    let vouched = c.args.self.now.vouched in
    rw c.in-Identity.is
    (c.any_valid-in-Identity.ensures.answer
    ∙ vouched_at (command_checks own.rings.items own.public_keys vouched)
    (length (own_checks own.rings.items own.public_keys)) (vouched_check c.in-Some.lines)
    (lines_at own.rings.items own.public_keys vouched c.in-Some.lines c.in-Some.is)
    c.args.id.now c.in-Identity.key (joined c.args.message.now) c.args.signatures.now)

pub returns-in-Some-clause-counted : goal.returns-in-Some-clause-counted
returns-in-Some-clause-counted c =
    let own = c.args.self.now.own in
    let vouched = c.args.self.now.vouched in
    rw c.in-Identity.is
    (c.any_valid-in-Identity.ensures.counted
    ∙ ap (raised c.args.meter.now) (tries_at (command_checks own.rings.items own.public_keys vouched)
    (length (own_checks own.rings.items own.public_keys)) (vouched_check c.in-Some.lines)
    (lines_at own.rings.items own.public_keys vouched c.in-Some.lines c.in-Some.is)
    c.args.id.now c.in-Identity.key (joined c.args.message.now) c.args.signatures.now))
