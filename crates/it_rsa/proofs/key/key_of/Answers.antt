use Rattle.std.proofs.Common.{◌∙◌, sym, rules}
use Rattle.it_rsa.specs.Key.{IsKey}
use Rattle.it_rsa.proofs.Keys.{no_modulus, no_exponent, no_length, exponent_written}
use Rattle.it_rsa.proofs.key.key_of.Goals as goal

pub returns-then-not-is_modulus : goal.returns-then-not-is_modulus
returns-then-not-is_modulus c = λ key good is _. no_modulus key c.args.modulus.now _ c.is_modulus.ensures c.if-not-is_modulus.true good is

pub returns-then-not-is_exponent : goal.returns-then-not-is_exponent
returns-then-not-is_exponent c = λ key good _ is.
    no_exponent key c.args.exponent.now _ _ c.exponent_number-number.ensures c.is_exponent.ensures c.if-not-is_exponent.true good is

pub returns-then-exponent-integer_size : goal.returns-then-exponent-integer_size
returns-then-exponent-integer_size c = λ key good _ is.
    no_length key c.args.exponent.now _ _ c.exponent_number-number.ensures c.integer_size.ensures c.if-exponent-integer_size.true good is

pub returns : goal.returns
returns c =
    let modulus = c.is_modulus.ensures.0 c.if-not-is_modulus.false in
    let exponent = c.is_exponent.ensures.0 c.if-not-is_exponent.false in
    let good : IsKey (record { modulus = c.args.modulus.now; exponent = c.exponent_number-number.result }) = record {
      full = modulus.0;
      least = c.requires.least;
      most = c.requires.most;
      odd = modulus.1;
      exponent_odd = exponent.0;
      exponent_least = exponent.1;
      exponent_most = exponent.2;
    } in (
      rw c.from_bytes.ensures good,
      sym c.from_bytes.ensures,
      exponent_written _ c.args.exponent.now (λ k. search rules) c.exponent_number-number.ensures (c.if-exponent-integer_size.false ∙ c.integer_size.ensures),
    )
