use Rattle.std.proofs.Common.{◌≡◌, drop, map}
use Rattle.it_dsse.specs.Panel.{key_from}
use Rattle.it_dsse.proofs.boxed.key_in.Given as goal

-- the key is that of the checks that are left
abbrev pub invariant-loop-place : goal.invariant-loop-place
invariant-loop-place g l =
    let checks = map (λ check. (goal.SignatureCheck-dyn g (check.vtable, check.value)).meaning
    check.value) in
    key_from l.place (checks (drop l.place l.panel)) l.id l.object ≡ key_from 0
    (checks l.panel) l.id l.object
