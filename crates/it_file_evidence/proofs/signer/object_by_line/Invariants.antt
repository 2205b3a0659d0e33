use Rattle.std.proofs.Common.{◌≡◌, drop}
use Rattle.it_file_evidence.specs.Signer.{first_answer, object_signing}
use Rattle.it_file_evidence.proofs.signer.object_by_line.Given as goal

-- the answer is that of the signatures that are left
abbrev pub invariant-loop-signature : goal.invariant-loop-signature
invariant-loop-signature l =
    first_answer (object_signing l.asked.builders.now l.asked.id.now l.asked.message.now l.line)
    (drop l.signature-index l.asked.signatures.now)
    ≡ first_answer (object_signing l.asked.builders.now l.asked.id.now l.asked.message.now l.line)
    l.asked.signatures.now
