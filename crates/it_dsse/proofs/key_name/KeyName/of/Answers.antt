use Rattle.std.proofs.Common.{rules, ap, refl, length, ℕ, ◌-◌}
use Rattle.it_dsse.proofs.Numbers.{laid_number}
use Rattle.it_dsse.proofs.key_name.KeyName.of.Goals as goal

pub returns : goal.returns
returns c =
    let front : ℕ = 1029 - length c.args.number.now in
    ap (λ (n : ℕ). (c.args.place, n))
    (laid_number c.args.number.now _ c.copy_from_slice.new.self 1029 front (1029 - front)
    (search rules) refl refl refl (search rules))
