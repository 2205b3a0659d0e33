use Rattle.std.proofs.Common.{◌∙◌, ap, arith, length}
use Rattle.it_rsa_forms.proofs.KeyBytes.{modulus_at, one_key, read}
use Rattle.it_rsa_forms.proofs.key_bytes.modulus_bytes.Goals as goal

pub slice_bounds-result-end : goal.slice_bounds-result-end
slice_bounds-result-end c =
    let size = (read c.args.info.now c.requires.0 c.requires.1).size in
    let is = c.requires.2 in
    omega (arith, size, is)

pub returns : goal.returns
returns c = λ key has.
    modulus_at c.args.info.now key c.args.size has
    (c.requires.2 ∙ ap (λ k. length k.modulus) (one_key c.args.info.now c.requires.0 key c.requires.1 has))
