use Rattle.std.proofs.Common.{◌≡◌}
use Rattle.std.proofs.lemmas.Result.{IfOk-weaker}
use Rattle.it_nonces.specs.SharedNonces.{shared_nonces}
use Rattle.it_strict.specs.Nonces.{AreSharedIn}
use Rattle.it_strict.proofs.nonces.nonces_shared.Goals as goal

pub returns : goal.returns
returns g c =
    let panel = g.C.Checks.panel c.args.checks.now in
    let uses = c.in_ok-uses.uses.items in
    IfOk-weaker c.shared_nonces.result (λ found. found.items ≡ shared_nonces uses)
    (λ found. AreSharedIn panel c.args.inputs.now c.args.documents.now found.items)
    (λ found are. record {
      uses = uses;
      are_uses = record {
        sublayouts = c.args.sublayouts.now;
        are_counted = c.requires;
        are_uses = c.in_ok-uses.ensures;
      };
      found_are = are;
    })
    (rw c.as_slice.ensures.value at c.shared_nonces.ensures)
