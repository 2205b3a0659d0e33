use Rattle.std.proofs.Common.{take, IsTrue}
use Rattle.std.specs.List.{All}
use Rattle.it_pem.specs.PublicKeyText.{is_body_line}
use Rattle.it_log_entry.proofs.certificate_text.are_body_lines.Given as goal

-- the lines so far may be of base64
abbrev pub invariant-loop-line : goal.invariant-loop-line
invariant-loop-line l =
    All (λ line. IsTrue (is_body_line line.now)) (take l.line-index l.lines)
