use Rattle.std.proofs.Common.{◌≡◌, true, false, refl}
use Rattle.it_numbers.specs.Bytes.{big}
use Rattle.it_public_keys.proofs.form.encodes_any_numbers.Goals as goal

pub returns-in-Some : goal.returns-in-Some
returns-in-Some c = (
  λ yes. record {
    r = big c.in-Some._numbers.r.now;
    s = big c.in-Some._numbers.s.now;
    encoded = c.in-Some.ensures;
  },
  λ is. refl,
)

pub returns-in-None : goal.returns-in-None
returns-in-None c = (
  λ (no : false ≡ true). cc,
  λ is. absurd (c.in-None.ensures is.r is.s is.encoded),
)
