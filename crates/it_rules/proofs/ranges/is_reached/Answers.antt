use Rattle.std.proofs.Common.{◌≡◌, false, sym, ◌∙◌}
use Rattle.std.proofs.lemmas.Str.Pattern.{starts_text}
use Rattle.it_rules.specs.inside.FrontOrder.{is_before}
use Rattle.it_rules.proofs.ranges.is_reached.Goals as goal

pub returns-else-is_before : goal.returns-else-is_before
returns-else-is_before c =
    let after : is_before c.args.path.now c.args.front.now ≡ false = sym c.is_before.ensures
    ∙ c.if-is_before.false in
    rw after (starts_text c.starts_with.result c.args.front.now c.args.path.now
    c.starts_with.ensures.cases)
