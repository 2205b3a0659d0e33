use Rattle.std.proofs.Common.{◌≡◌, ◌-◌, length, take, rules, refl}
use Rattle.it_rsa.proofs.Verdicts.{encoded_judged}
use Rattle.it_rsa.proofs.encoding.is_encoded.Goals as goal

pub returns : goal.returns
returns c =
    let copied : c.copy_from_slice.new.self ≡ take (length c.args.em.now - 33) c.args.em.now = search rules in
    encoded_judged c.args.digest.now c.args.em.now c.open_data.new.bytes c.copy_from_slice.new.self _ c.is_first_bit_clear.result c.is_opened.result
    c.requires.room copied refl c.open_data.ensures c.if-em.false c.is_first_bit_clear.ensures c.if-not-is_first_bit_clear.false c.is_opened.ensures
