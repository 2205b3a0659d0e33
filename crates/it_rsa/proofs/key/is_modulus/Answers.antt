use Rattle.it_numbers.proofs.Big.{big_parity}
use Rattle.it_rsa.proofs.Keys.{modulus_judged}
use Rattle.it_rsa.proofs.key.is_modulus.Goals as goal

pub returns-then-bytes-ge128 : goal.returns-then-bytes-ge128
returns-then-bytes-ge128 c = modulus_judged _ _ _ c.if-bytes-ge128.true (big_parity c.args.bytes.now c.requires)
