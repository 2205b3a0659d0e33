use Rattle.std.proofs.Common.{append-nil}
use Rattle.it_issued.proofs.Signing.{by_p256, no_p256}
use Rattle.it_vouches.proofs.leaf_key.is_by.Goals as goal

pub returns-in-Some : goal.returns-in-Some
returns-in-Some c =
    by_p256 c.args.info.now c.args.text.now c.args.signature.now c.in-Some.key c.is_signature.result c.in-Some.ensures.0
    c.in-Some.ensures.1 (rw append-nil at c.is_signature.ensures)

pub returns-in-None : goal.returns-in-None
returns-in-None c = no_p256 c.args.info.now c.args.text.now c.args.signature.now c.in-None.ensures
