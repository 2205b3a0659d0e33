use Rattle.it_rsa.proofs.Keys.{parts_of_key, info_judged}
use Rattle.it_rsa.specs.Info.{exponent_bytes}
use Rattle.it_rsa.proofs.key.PublicKey.from_info.Goals as goal

pub returns-in_default : goal.returns-in_default
returns-in_default c = λ key good is. c.in_default.ensures key.modulus (exponent_bytes key.exponent) (parts_of_key c.args.info.now key good is)

pub returns : goal.returns
returns c = info_judged c.args.info.now _ _ _ c.in-Some.ensures c.key_of.ensures
