use Rattle.std.proofs.Common.{◌≡◌, ◌∙◌, take, sym, subst, arith}
use Rattle.std.proofs.lemmas.List.{take_all}
use Rattle.std.proofs.lemmas.List.Elements.{All-more}
use Rattle.it_log_entry.specs.Checkpoint.{IsNoteSignature}
use Rattle.it_log_entry.specs.Note.{ended}
use Rattle.it_log_entry.specs.inside.Lines.{texts_of}
use Rattle.it_log_entry.proofs.Bodies.{refused}
use Rattle.it_log_entry.proofs.checkpoint.is_signed_by.Goals as goal

pub loop-signature-preserved : goal.loop-signature-preserved
loop-signature-preserved c =
    let text = ended (texts_of c.args.lines.now) in
    let test = rw (c.as_slice.ensures.value, c.in_ok-text.ensures, c.as_slice-in-loop-signature.ensures)
    at c.in_ok-is_note_signature.ensures.answer in
    record {
      none = All-more (λ signature. ¬ IsNoteSignature c.args.log.now.key text signature) c.args.signatures.now
          c.loop-signature.signature-index c.signature-item.result c.loop-signature-test.true
          c.loop-signature.invariant.none
          (λ is. let yes = test.1 (subst (IsNoteSignature c.args.log.now.key text) (sym c.signature-item.is) is) in
          cc);
      most = c.in_ok-is_note_signature.ensures.most ∙ c.loop-signature.invariant.most;
      grows = omega (arith, c.in_ok-is_note_signature.ensures.grows, c.loop-signature.invariant.grows);
    }

pub returns-clause-answer : goal.returns-clause-answer
returns-clause-answer c =
    let text = ended (texts_of c.args.lines.now) in
    let all : take c.loop-signature.signature-index c.args.signatures.now ≡ c.args.signatures.now =
    take_all c.loop-signature.signature-index c.args.signatures.now (omega arith) in
    let none = rw all at c.loop-signature.invariant.none in
    refused _ (λ any. none any.0 any.1 any.2
    (subst (IsNoteSignature c.args.log.now.key text) (sym any.3) any.4))
