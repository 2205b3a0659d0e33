use Rattle.std.proofs.Common.{ap, option_map}
use Rattle.it_public_keys.specs.NamedKeys.{number_of}
use Rattle.it_public_keys.proofs.Following.{public_known, ring_known}
use Rattle.it_public_keys.proofs.own_checks.OwnChecksChecks.find.Goals as goal

pub returns-in-Some-clause-key : goal.returns-in-Some-clause-key
returns-in-Some-clause-key c =
    ring_known c.args.id.now c.args.object.now c.args.self.now.rings.items
    c.args.self.now.public_keys (c.in-Some.place, c.in-Some.number)
    (rw c.as_slice.ensures.value at c.in-Some.ensures.key)

pub returns-in-Some-find-clause-key : goal.returns-in-Some-find-clause-key
returns-in-Some-find-clause-key c =
    let known = public_known c.args.id.now c.args.object.now c.args.self.now.rings.items _
    (rw c.as_slice.ensures.value at c.in_default.ensures.key)
    (ap (option_map number_of) c.in-Some-find.ensures) in
    rw (c.if-not-self.false) known

pub returns-in-None-clause-key : goal.returns-in-None-clause-key
returns-in-None-clause-key c =
    let known = public_known c.args.id.now c.args.object.now c.args.self.now.rings.items _
    (rw c.as_slice.ensures.value at c.in_default.ensures.key)
    (ap (option_map number_of) c.in-None.ensures) in
    rw (c.if-not-self.false) known
