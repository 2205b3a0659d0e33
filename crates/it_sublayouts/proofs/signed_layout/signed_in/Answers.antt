use Rattle.std.proofs.Common.{refl}
use Rattle.it_sublayouts.specs.inside.Signed.{HoldsSigned, IsSignedIn}
use Rattle.it_sublayouts.proofs.Outcomes.{ok_finds_alike}
use Rattle.it_sublayouts.proofs.signed_layout.signed_in.Goals as goal

pub returns : goal.returns
returns g c =
    let panel = g.C.Checks.panel c.args.checks.now in
    let step = c.args.step.now in
    let signer = c.args.signer.now in
    let file = c.args.file.now in
    ok_finds_alike (λ payload. payload.now) (HoldsSigned panel signer.id.now signer.object.now file.bytes)
    (IsSignedIn panel step signer.id.now signer.object.now file)
    (λ payload holds. record {
      claimed = rw (c.as_str.ensures, c.name.ensures) at (c.if-not-is_claimed.ensures.0 refl);
      holds = holds;
    }) (λ payload is. is.holds) c.held_payload.result c.held_payload.ensures
