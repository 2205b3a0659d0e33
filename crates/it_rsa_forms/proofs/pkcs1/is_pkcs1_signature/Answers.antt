use Rattle.std.proofs.Common.{◌∙◌, ap, arith, length}
use Rattle.std.proofs.lemmas.List.{append-nil}
use Rattle.sha2.specs.Sha256.{sha256}
use Rattle.it_rsa_forms.specs.inside.Opening.{OpensTo}
use Rattle.it_rsa_forms.proofs.Opened.{em_least, pkcs1_judged}
use Rattle.it_rsa_forms.proofs.pkcs1.is_pkcs1_signature.Goals as goal

pub is_encoding-requires : goal.is_encoding-requires
is_encoding-requires c =
    let opens : OpensTo c.args.info.now c.args.signature.now c.in-Some.em.items =
    rw c.in-Some.is at c.in_ok-em.ensures in
    let least = em_least c.args.info.now c.args.signature.now c.in-Some.em.items opens in
    let long = ap length c.as_slice.ensures.value in
    omega (arith, least, long)

pub returns : goal.returns
returns c =
    let em = c.in-Some.em.items in
    let opens : OpensTo c.args.info.now c.args.signature.now em =
    rw c.in-Some.is at c.in_ok-em.ensures in
    let digest = c.message_sha256.ensures ∙ ap sha256 (append-nil c.args.message.now) in
    pkcs1_judged c.args.info.now c.args.signature.now em opens c.args.message.now
    c.is_encoding.result
    (rw (digest, c.as_slice.ensures.value) at c.is_encoding.ensures)
