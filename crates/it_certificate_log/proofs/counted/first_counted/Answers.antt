use Rattle.std.proofs.Common.{arith, refl}
use Rattle.it_certificate_log.proofs.Counting.{counted_found}
use Rattle.it_certificate_log.proofs.counted.first_counted.Goals as goal

pub returns : goal.returns
returns c =
    let bytes = c.args.bytes.now in
    counted_found bytes _ c.front_of.result c.if-bytes-lt2.false (omega (arith, c.type_inv.bytes 0)) (omega (arith, c.type_inv.bytes 1))
    refl c.front_of.ensures
