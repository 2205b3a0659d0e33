use Rattle.std.proofs.Common.{◌∙◌, ap, not}
use Rattle.it_public_keys.specs.OwnKeys.{found_number}
use Rattle.it_command_checks.proofs.Finding.{identity_known, none_known, own_known}
use Rattle.it_command_checks.proofs.command_checks.CommandChecksChecks.find.Goals as goal

pub returns-in-Some-clause-key : goal.returns-in-Some-clause-key
returns-in-Some-clause-key c =
    let own = c.args.self.now.own in
    own_known own.rings.items own.public_keys c.args.id.now c.args.object.now c.args.self.now.vouched
    (found_number own c.in-Some.key) c.in-Some.ensures.key

pub returns-then-is_none-clause-key : goal.returns-then-is_none-clause-key
returns-then-is_none-clause-key c =
    let own = c.args.self.now.own in
    none_known own.rings.items own.public_keys c.args.id.now c.args.object.now c.args.self.now.vouched
    (c.is_none.ensures ∙ ap not c.if-is_none.true) c.in_default.ensures.key

pub returns-in-Some-in_object-clause-key : goal.returns-in-Some-in_object-clause-key
returns-in-Some-in_object-clause-key c =
    let own = c.args.self.now.own in
    identity_known own.rings.items own.public_keys c.args.id.now c.args.object.now
    c.args.self.now.vouched _ (c.is_none.ensures ∙ ap not c.if-is_none.false) c.in_default.ensures.key
    c.in-Some-in_object.ensures

pub returns-in-None-clause-key : goal.returns-in-None-clause-key
returns-in-None-clause-key c =
    let own = c.args.self.now.own in
    identity_known own.rings.items own.public_keys c.args.id.now c.args.object.now
    c.args.self.now.vouched _ (c.is_none.ensures ∙ ap not c.if-is_none.false) c.in_default.ensures.key
    c.in-None.ensures
