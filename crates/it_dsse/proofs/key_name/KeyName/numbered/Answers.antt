use Rattle.std.proofs.Common.{◌≡◌, ◌∙◌, ap, ℕ}
use Rattle.it_numbers.specs.Bytes.{big}
use Rattle.it_dsse.proofs.Numbers.{word_number}
use Rattle.it_dsse.proofs.key_name.KeyName.numbered.Goals as goal

pub returns : goal.returns
returns c =
    let word : big c.to_be_bytes.result ≡ c.args.number =
    ap big c.to_be_bytes.ensures ∙ word_number c.args.number c.ranges.number.fits in
    c.of.ensures ∙ ap (λ (n : ℕ). (c.args.place, n)) word
