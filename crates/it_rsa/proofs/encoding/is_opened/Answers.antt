use Rattle.it_rsa.proofs.Verdicts.{opened_judged}
use Rattle.it_rsa.proofs.encoding.is_opened.Goals as goal

pub returns : goal.returns
returns c =
    opened_judged c.args.digest.now c.args.bytes.now c.args.hash.now c.salted-again.result c.as_slice.result.now c.mark_place-mark.result c.all_zero.result c.eq.result c.mark_place-mark.ensures
    c.requires c.if-not-all_zero.false c.all_zero.ensures c.if-bytes-mark-ne1.false c.salted-again.ensures c.as_slice.ensures c.eq.ensures
