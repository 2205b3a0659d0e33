use Rattle.std.proofs.Common.{rules}
use Rattle.it_key_notes.proofs.Describing.{ed25519_described}
use Rattle.it_key_notes.proofs.reasons.ed25519_reason.Goals.{in-Some, in-None}
use Rattle.it_key_notes.proofs.reasons.ed25519_reason.Goals as goal

pub returns : goal.returns
returns c = elim c.match-from_bytes.branch [
  | in-Some w ↦ rw w.result-is (ed25519_described c.args.object.now c.in-Ok.bytes c.requires (search rules) (search rules))
  | in-None w ↦ rw w.result-is (search rules)
]
