use Rattle.std.proofs.Common.{◌∙◌, ap}
use Rattle.it_pem.specs.PublicKeyText.{info_in}
use Rattle.it_key_commands.proofs.RsaForms.{pkcs1_by_object}
use Rattle.it_key_commands.proofs.rsa_form.is_pkcs1.Goals as goal

pub returns-in-Some : goal.returns-in-Some
returns-in-Some c =
    pkcs1_by_object c.args.object.now c.in-Some.info c.args.message.now c.args.signature.now c.requires
    (c.in-Some.ensures ∙ ap info_in c.as_str.ensures) c.is_pkcs1_signature.result (rw c.as_bytes.ensures at c.is_pkcs1_signature.ensures)
