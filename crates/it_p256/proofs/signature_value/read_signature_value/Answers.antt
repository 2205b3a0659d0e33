use Rattle.std.proofs.Common.{◌≡◌, ◌≤◌, ◌^◌, arith}
use Rattle.it_numbers.specs.Bytes.{big}
use Rattle.it_ecdsa_der.proofs.OneValue.{same_numbers}
use Rattle.it_p256_limbs.specs.Numbers.{value_of}
use Rattle.it_p256.proofs.signature_value.read_signature_value.Goals as goal

pub returns-in_err-value : goal.returns-in_err-value
returns-in_err-value c = rw c.from_residual.ensures
    (λ r s hr hs v. (rw c.in_err-value.was at c.read_signature_value.ensures) r s v)

pub returns-in_err-r : goal.returns-in_err-r
returns-in_err-r c = rw c.from_residual-in_err-r.ensures (λ r s hr hs v.
    let same : r ≡ big c.in_ok-value.value.r.now =
    (same_numbers c.args.bytes.now r s _ _ v c.in_ok-value.ensures).0 in
    let over : 2 ^ 256 ≤ big c.in_ok-value.value.r.now = c.in_err-r.ensures in omega arith)

pub returns-in_err-s : goal.returns-in_err-s
returns-in_err-s c = rw c.from_residual-in_err-s.ensures (λ r s hr hs v.
    let same : s ≡ big c.in_ok-value.value.s.now =
    (same_numbers c.args.bytes.now r s _ _ v c.in_ok-value.ensures).1 in
    let over : 2 ^ 256 ≤ big c.in_ok-value.value.s.now = c.in_err-s.ensures in omega arith)

pub returns : goal.returns
returns c =
    let first : value_of c.in_ok-r.r ≡ big c.in_ok-value.value.r.now = c.in_ok-r.ensures in
    let second : value_of c.in_ok-s.s ≡ big c.in_ok-value.value.s.now = c.in_ok-s.ensures in
    rw (first, second) c.in_ok-value.ensures
