use Rattle.std.proofs.Common.{◌≡◌, ◌∙◌, ◌<◌, ℕ, Bool, IfOk, OnOk, length, true, ap, subst}
use Rattle.it_message.specs.Message.{joined}
use Rattle.it_dsse.specs.Meter.{raised}
use Rattle.it_dsse.specs.Ring.{ring_check}
use Rattle.it_public_keys.specs.NamedKeys.{number_of, public_key_check}
use Rattle.it_public_keys.specs.OwnChecks.{own_checks}
use Rattle.it_public_keys.specs.OwnKeys.{found_key}
use Rattle.it_public_keys.proofs.Following.{public_at, ring_at, tries_at, vouched_at}
use Rattle.it_public_keys.proofs.own_checks.OwnChecksChecks.any_valid.Goals as goal

pub returns-in-Ring-clause-answer : goal.returns-in-Ring-clause-answer
returns-in-Ring-clause-answer c =
    let own = c.args.self.now in
    let stands : c.in-Ring.place < length own.rings.items = rw c.in-Ring.is at c.requires in
    let at = ring_at own.rings.items own.public_keys c.in-Ring.place c.index-ring.result.now stands
    c.index-ring.ensures in
    rw c.in-Ring.is
    (c.any_valid.ensures.answer
    ∙ vouched_at (own_checks own.rings.items own.public_keys) c.in-Ring.place
    (ring_check c.index-ring.result.now) at c.args.id.now c.in-Ring.number
    (joined c.args.message.now) c.args.signatures.now)

pub returns-in-Ring-clause-counted : goal.returns-in-Ring-clause-counted
returns-in-Ring-clause-counted c =
    let own = c.args.self.now in
    let stands : c.in-Ring.place < length own.rings.items = rw c.in-Ring.is at c.requires in
    let at = ring_at own.rings.items own.public_keys c.in-Ring.place c.index-ring.result.now stands
    c.index-ring.ensures in
    rw c.in-Ring.is
    (c.any_valid.ensures.counted
    ∙ ap (raised c.args.meter.now) (tries_at (own_checks own.rings.items own.public_keys)
    c.in-Ring.place (ring_check c.index-ring.result.now) at c.args.id.now c.in-Ring.number
    (joined c.args.message.now) c.args.signatures.now))

pub returns-in-Public-clause-answer : goal.returns-in-Public-clause-answer
returns-in-Public-clause-answer c =
    let own = c.args.self.now in
    let stands : own.public_keys ≡ true = rw c.in-Public.is at c.requires in
    let at = public_at own.rings.items own.public_keys stands in
    rw c.in-Public.is
    (subst (λ (answer : Bool). IfOk c.any_valid-in-Public.result (λ valid. valid ≡ answer))
    (vouched_at (own_checks own.rings.items own.public_keys) (length own.rings.items)
    public_key_check at c.args.id.now (number_of (found_key c.in-Public.key))
    (joined c.args.message.now) c.args.signatures.now)
    c.any_valid-in-Public.ensures.answer)

pub returns-in-Public-clause-counted : goal.returns-in-Public-clause-counted
returns-in-Public-clause-counted c =
    let own = c.args.self.now in
    let stands : own.public_keys ≡ true = rw c.in-Public.is at c.requires in
    let at = public_at own.rings.items own.public_keys stands in
    rw c.in-Public.is
    (subst (λ (n : ℕ). OnOk c.any_valid-in-Public.result
    (c.any_valid-in-Public.new.meter ≡ raised c.args.meter.now n))
    (tries_at (own_checks own.rings.items own.public_keys)
    (length own.rings.items) public_key_check at c.args.id.now
    (number_of (found_key c.in-Public.key))
    (joined c.args.message.now) c.args.signatures.now)
    c.any_valid-in-Public.ensures.counted)
