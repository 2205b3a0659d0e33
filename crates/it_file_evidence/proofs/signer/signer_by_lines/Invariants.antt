use Rattle.std.proofs.Common.{◌≡◌, drop}
use Rattle.it_file_evidence.specs.Signer.{first_answer}
use Rattle.it_file_evidence.specs.inside.Asked.{signer_asked}
use Rattle.it_file_evidence.proofs.signer.signer_by_lines.Given as goal

-- the answer is that of the lines that are left
abbrev pub invariant-loop-line : goal.invariant-loop-line
invariant-loop-line l =
    first_answer (signer_asked l.asked) (drop l.line-index l.vouched)
    ≡ first_answer (signer_asked l.asked) l.vouched
