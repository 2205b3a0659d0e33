use Rattle.std.proofs.Common.{map, take, string_bytes}
use Rattle.it_dsse.specs.Panel.{Panel}
use Rattle.it_dsse.specs.Signed.{AreThose, IsSigner}
use Rattle.it_dsse.proofs.signers.signed_ids_by.Given as goal

abbrev pub invariant-loop-id : goal.invariant-loop-id
invariant-loop-id g l =
    let panel : Panel = g.C.Checks.panel l.checks in
    AreThose (IsSigner panel l.envelope l.object)
    (map string_bytes (take l.id-index l.ids)) (map string_bytes l.signers.items)
