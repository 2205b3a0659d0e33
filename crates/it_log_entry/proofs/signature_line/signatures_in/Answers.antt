use Rattle.std.proofs.Common.{arith}
use Rattle.std.proofs.lemmas.List.{length-map}
use Rattle.it_log_entry.specs.inside.Lines.{texts_of}
use Rattle.it_log_entry.proofs.Bodies.{mapped}
use Rattle.it_log_entry.proofs.SignatureLines.{signatures_found}
use Rattle.it_log_entry.proofs.signature_line.signatures_in.Goals as goal

pub returns : goal.returns
returns c = mapped c.each_signature.result _ _ (λ found each.
    signatures_found (texts_of c.args.lines.now) found
    (omega (arith, length-map c.args.lines.now (λ line. line.now)))
    (omega (arith, length-map c.args.lines.now (λ line. line.now))) each) c.each_signature.ensures
