use Rattle.std.proofs.Common.{◌∙◌, append-nil, ap, refl, sym}
use Rattle.it_public_keys.specs.Validity.{is_signature_of}
use Rattle.it_key_commands.proofs.Checked.{found, keyless, refused_by_key, valid_by_key}
use Rattle.it_key_commands.proofs.signer.is_signature.Goals as goal

pub returns-in-None-clause-err : goal.returns-in-None-clause-err
returns-in-None-clause-err c = (refl, keyless c.args.object.now c.in-None.ensures)

pub returns-in-Some-clause-valid : goal.returns-in-Some-clause-valid
returns-in-Some-clause-valid c = λ passes.
    let object = c.args.object.now in
    let key = c.in-Some.key in
    let answer = c.is_signature.ensures
    ∙ ap (λ message. is_signature_of key message c.args.signature.now)
    (append-nil c.args.message.now) in
    (valid_by_key object key (found object key c.in-Some.ensures) c.args.message.now
    c.args.signature.now).0 (sym answer ∙ passes)

pub returns-in-Some-clause-bad : goal.returns-in-Some-clause-bad
returns-in-Some-clause-bad c = λ refused.
    let object = c.args.object.now in
    let key = c.in-Some.key in
    let answer = c.is_signature.ensures
    ∙ ap (λ message. is_signature_of key message c.args.signature.now)
    (append-nil c.args.message.now) in
    refused_by_key object key (found object key c.in-Some.ensures) c.args.message.now
    c.args.signature.now (sym answer ∙ refused)
