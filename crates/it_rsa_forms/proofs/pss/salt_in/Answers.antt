use Rattle.std.proofs.Common.{◌∙◌, ap, length, refl}
use Rattle.it_rsa_forms.proofs.Salts.{salt_judged}
use Rattle.it_rsa_forms.proofs.pss.salt_in.Goals as goal

pub returns : goal.returns
returns c =
    salt_judged c.args.digest.now c.args.em.now c.as_slice.result.now _ _ c.requires.room refl refl
    (c.as_slice.ensures.value ∙ c.in_ok-opened.ensures.bytes)
    (ap length c.as_slice.ensures.value ∙ c.in_ok-opened.ensures.long) c.opened_salt.result
    c.if-em.false c.if-em-ge128.false c.opened_salt.ensures
