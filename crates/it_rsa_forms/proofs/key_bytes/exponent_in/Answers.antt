use Rattle.std.proofs.Common.{◌∙◌, ◌≤◌, ap, arith, length, subst, sym}
use Rattle.it_rsa.proofs.Keys.{exponent_read, exponent_short}
use Rattle.it_rsa_forms.proofs.KeyBytes.{exponent_there, one_key, read}
use Rattle.it_rsa_forms.proofs.key_bytes.exponent_in.Goals as goal

pub slice_bounds-exponent_number-count : goal.slice_bounds-exponent_number-count
slice_bounds-exponent_number-count c =
    let size = (read c.args.info.now c.requires.0 c.requires.1).size in
    let is = c.requires.2 in
    omega (arith, size, is)

pub slice_bounds-exponent_number-start : goal.slice_bounds-exponent_number-start
slice_bounds-exponent_number-start c =
    let size = (read c.args.info.now c.requires.0 c.requires.1).size in
    let is = c.requires.2 in
    omega (arith, size, is)

pub exponent_number-requires : goal.exponent_number-requires
exponent_number-requires c =
    subst (λ bytes. length bytes ≤ 4)
    (sym (exponent_there c.args.info.now c.requires.0 c.args.size c.requires.1 c.requires.2))
    (exponent_short c.requires.0.exponent)

pub returns : goal.returns
returns c = λ key has.
    let one = one_key c.args.info.now c.requires.0 key c.requires.1 has in
    c.exponent_number.ensures
    ∙ exponent_read key.exponent _ has.is_key.exponent_most
    (exponent_there c.args.info.now key c.args.size has
    (c.requires.2 ∙ ap (λ k. length k.modulus) one))
