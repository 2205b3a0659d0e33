use Rattle.std.proofs.Common.{rules}
use Rattle.it_key_notes.proofs.Describing.{p384_described}
use Rattle.it_key_notes.proofs.reasons.p384_reason.Goals as goal

pub returns-in-Some-from_info : goal.returns-in-Some-from_info
returns-in-Some-from_info c =
    p384_described c.args.object.now c.in-Some.info c.in-Some-from_info.field-0 c.requires
    (search rules) c.in-Some-from_info.ensures.0
    (rw c.as_bytes.ensures at c.in-Some-from_info.ensures.1)
