use Rattle.std.proofs.Common.{◌∙◌, ap, length, sym}
use Rattle.it_rsa_forms.specs.Info.{IsInfoOf}
use Rattle.it_rsa_forms.proofs.KeyBytes.{one_key}
use Rattle.it_rsa_forms.proofs.encoded_message.encoded_message.Goals as goal

pub returns-then-signature-size : goal.returns-then-signature-size
returns-then-signature-size c = λ key has number.
    let found : IsInfoOf c.args.info.now c.in-Some.key =
    record { is_key = c.in-Some.ensures.0; info_is = c.in-Some.ensures.1 } in
    let one = one_key c.args.info.now key c.in-Some.key has found in
    c.if-signature-size.true
    (number.long ∙ ap (λ k. length k.modulus) one ∙ sym c.size.ensures.value)
