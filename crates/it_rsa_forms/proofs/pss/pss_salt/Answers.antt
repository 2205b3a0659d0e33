use Rattle.std.proofs.Common.{◌∙◌, ap, arith, length}
use Rattle.std.proofs.lemmas.List.{append-nil}
use Rattle.sha2.specs.Sha256.{sha256}
use Rattle.it_rsa_forms.specs.inside.Opening.{OpensTo}
use Rattle.it_rsa_forms.proofs.Opened.{em_least, em_most, pss_judged}
use Rattle.it_rsa_forms.proofs.pss.pss_salt.Goals as goal

pub salt_in-requires-clause-room : goal.salt_in-requires-clause-room
salt_in-requires-clause-room c =
    let opens : OpensTo c.args.info.now c.args.signature.now c.in-Some.em.items =
    rw c.in-Some.is at c.in_ok-em.ensures in
    let least = em_least c.args.info.now c.args.signature.now c.in-Some.em.items opens in
    let long = ap length c.as_slice.ensures.value in
    omega (arith, least, long)

pub salt_in-requires-clause-most : goal.salt_in-requires-clause-most
salt_in-requires-clause-most c =
    let opens : OpensTo c.args.info.now c.args.signature.now c.in-Some.em.items =
    rw c.in-Some.is at c.in_ok-em.ensures in
    let most = em_most c.args.info.now c.args.signature.now c.in-Some.em.items opens in
    let long = ap length c.as_slice.ensures.value in
    omega (arith, most, long)

pub returns : goal.returns
returns c =
    let em = c.in-Some.em.items in
    let opens : OpensTo c.args.info.now c.args.signature.now em =
    rw c.in-Some.is at c.in_ok-em.ensures in
    let digest = c.message_sha256.ensures ∙ ap sha256 (append-nil c.args.message.now) in
    pss_judged c.args.info.now c.args.signature.now em opens c.args.message.now c.salt_in.result
    (rw (digest, c.as_slice.ensures.value) at c.salt_in.ensures)
