use Rattle.std.proofs.Common.{arith, length, refl}
use Rattle.hex.specs.Hex.{IsBytes}
use Rattle.hex.proofs.HexLemmas.{decode_sized-encode_lower}
use Rattle.it_key_commands.proofs.key_file.digits_of.Goals as goal

pub returns-clause-reads_back : goal.returns-clause-reads_back
returns-clause-reads_back c =
    let all = c.args.bytes.now in
    let bytes : IsBytes all = λ i. let fits = c.type_inv.bytes i in omega arith in
    rw (decode_sized-encode_lower all (length all) refl bytes) refl
