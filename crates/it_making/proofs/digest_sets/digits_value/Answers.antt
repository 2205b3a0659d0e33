use Rattle.std.proofs.Common.{arith, length, refl}
use Rattle.hex.specs.Hex.{IsBytes}
use Rattle.hex.proofs.HexLemmas.{decode_sized-encode_lower}
use Rattle.it_making.proofs.digest_sets.digits_value.Goals as goal

pub returns-clause-reads_back : goal.returns-clause-reads_back
returns-clause-reads_back c =
    let digest = c.args.bytes.now in
    let bytes : IsBytes digest = λ i. let fits = c.type_inv.bytes i in omega arith in
    rw (decode_sized-encode_lower digest (length digest) refl bytes) refl
