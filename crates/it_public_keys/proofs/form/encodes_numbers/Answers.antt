use Rattle.std.proofs.Common.{◌≡◌, true, false, arith, refl}
use Rattle.it_p256_limbs.specs.Numbers.{value_of}
use Rattle.it_p256_limbs.proofs.Chains.{number_small}
use Rattle.it_public_keys.proofs.form.encodes_numbers.Goals as goal

pub returns-in-Some : goal.returns-in-Some
returns-in-Some c =
    let r = c.in-Some._numbers.r in
    let s = c.in-Some._numbers.s in (
      λ yes. record {
        r = value_of r;
        s = value_of s;
        r_small = number_small r.0 r.1 r.2 r.3 (omega arith) (omega arith) (omega arith) (omega arith);
        s_small = number_small s.0 s.1 s.2 s.3 (omega arith) (omega arith) (omega arith) (omega arith);
        encoded = c.in-Some.ensures;
      },
      λ is. refl,
    )

pub returns-in-None : goal.returns-in-None
returns-in-None c = (
  λ (no : false ≡ true). cc,
  λ is. absurd (c.in-None.ensures is.r is.s is.r_small is.s_small is.encoded),
)
