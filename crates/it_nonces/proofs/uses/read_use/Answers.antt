use Rattle.std.proofs.Common.{◌<◌, ◌^◌, arith}
use Rattle.it_p256_limbs.specs.Numbers.{value_of}
use Rattle.it_p256_limbs.proofs.Chains.{number_small}
use Rattle.it_nonces.proofs.uses.read_use.Goals as goal

pub returns-in_default : goal.returns-in_default
returns-in_default c = λ has.
    (rw c.in_default.is at c.read_signature_value.ensures) has.r has.s has.r_below has.s_below
    (rw c.as_slice.ensures has.encoded)

pub returns : goal.returns
returns c =
    let r : value_of c.in-Some.numbers.r < 2 ^ 256 =
    number_small c.in-Some.numbers.r.0 c.in-Some.numbers.r.1 c.in-Some.numbers.r.2
    c.in-Some.numbers.r.3 (omega arith) (omega arith) (omega arith) (omega arith) in
    let s : value_of c.in-Some.numbers.s < 2 ^ 256 =
    number_small c.in-Some.numbers.s.0 c.in-Some.numbers.s.1 c.in-Some.numbers.s.2
    c.in-Some.numbers.s.3 (omega arith) (omega arith) (omega arith) (omega arith) in
    let encoded = rw c.in-Some.is at c.read_signature_value.ensures in
    let is = rw c.as_slice.ensures at encoded in (
      record {
        r = value_of c.in-Some.numbers.r;
        s = value_of c.in-Some.numbers.s;
        r_below = r;
        s_below = s;
        encoded = is;
      },
      record {
        signer_is = c.in_ok-copy.ensures;
        key_is = c.copied.ensures;
        s = value_of c.in-Some.numbers.s;
        encoded = is;
      },
    )
