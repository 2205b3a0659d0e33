use Rattle.it_ecdsa_der.proofs.signature_value.read_signature_value.Goals as goal

pub returns-in_default : goal.returns-in_default
returns-in_default c = λ r s v. c.in_default.ensures v.middle r v.first
