use Rattle.std.proofs.Common.{◌≡◌, ◌∙◌, ◌<◌, ℕ, length, get_or, rules, sym}
use Rattle.it_dsse.proofs.Numbers.{eq_big}
use Rattle.it_vouched.proofs.identity_key.is_same_name.Goals as goal

pub returns : goal.returns
returns c =
    let small : (k : ℕ) → get_or c.args.one.now k 0 < 256 = λ k. search rules in
    let other : (k : ℕ) → get_or c.args.other.now k 0 < 256 = λ k. search rules in
    let long : length c.args.one.now ≡ length c.args.other.now = c.told-one ∙ sym c.told-other in
    c.eq.ensures ∙ eq_big c.args.one.now c.args.other.now long small other
