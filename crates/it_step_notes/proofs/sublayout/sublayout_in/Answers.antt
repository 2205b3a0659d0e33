use Rattle.std.proofs.Common.{refl}
use Rattle.it_step_notes.specs.Sublayout.{HoldsLayout, IsSublayoutIn}
use Rattle.it_step_notes.proofs.Outcomes.{ok_finds_alike}
use Rattle.it_step_notes.proofs.sublayout.sublayout_in.Goals as goal

pub returns : goal.returns
returns g c =
    let panel = g.C.Checks.panel c.args.checks.now in
    let at = c.args.at.now in
    let file = c.args.file.now in
    ok_finds_alike (HoldsLayout panel at.layout.now c.args.id.now file.bytes)
    (IsSublayoutIn panel at.layout.now at.step.now c.args.id.now file)
    (λ below holds. record {
      claimed = rw (c.as_str.ensures, c.name.ensures) at
          (c.if-not-is_claimed.ensures.0 refl);
      holds = holds;
    }) (λ below is. is.holds) c.signed_layout.result c.signed_layout.ensures
