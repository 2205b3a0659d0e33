use Rattle.std.proofs.Common.{take}
use Rattle.std.specs.List.{AllZip}
use Rattle.it_log_entry.specs.Note.{IsSignatureLine}
use Rattle.it_log_entry.specs.inside.Lines.{texts_of}
use Rattle.it_log_entry.proofs.signature_line.each_signature.Given as goal

-- the signatures of the lines so far
abbrev pub invariant-loop-line : goal.invariant-loop-line
invariant-loop-line l =
    AllZip IsSignatureLine (texts_of (take l.line-index l.lines)) l.signatures.items
