use Rattle.std.proofs.Common.{◌∙◌, append-nil, ap, sym}
use Rattle.it_dsse.specs.Vouched.{is_vouched_by}
use Rattle.it_public_keys.specs.NamedKeys.{number_of, public_key_check}
use Rattle.it_key_commands.proofs.Checked.{found, keyless, keyless_signs_nothing, signed_by_key}
use Rattle.it_key_commands.proofs.signer.is_signed_under.Goals as goal

pub returns-in_default : goal.returns-in_default
returns-in_default c =
    keyless_signs_nothing c.args.id.now c.args.object.now c.args.message.now c.args.signatures.now
    (keyless c.args.object.now c.in_default.ensures)

pub returns : goal.returns
returns c =
    let object = c.args.object.now in
    let key = c.in-Some.key in
    let both = signed_by_key object key (found object key c.in-Some.ensures) c.args.message.now
    c.args.id.now c.is_of_bytes.ensures c.args.signatures.now in
    let answer = c.any_valid.ensures.answer
    ∙ ap (λ message. is_vouched_by public_key_check c.args.id.now (number_of key) message
    c.args.signatures.now) (append-nil c.args.message.now) in
    (λ passes. both.0 (sym answer ∙ passes), λ signed. answer ∙ both.1 signed)
