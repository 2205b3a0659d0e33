use Rattle.std.proofs.Common.{[], take}
use Rattle.std.proofs.lemmas.List.{map-append, take_more}
use Rattle.std.proofs.lemmas.Slice.Zip.{all_zipped_more}
use Rattle.it_log_entry.specs.Note.{IsSignatureLine}
use Rattle.it_log_entry.specs.inside.Lines.{texts_of}
use Rattle.it_log_entry.proofs.SignatureLines.{zip_none}
use Rattle.it_log_entry.proofs.signature_line.each_signature.Goals as goal

pub returns-in_default : goal.returns-in_default
returns-in_default c = zip_none c.args.lines.now c.loop-line.line-index (record {
  ref_ptr = (0, 0);
  now = [];
}) c.loop-line-test.true (rw c.in_default.is at c.in_ok-signature.ensures)

pub loop-line-preserved : goal.loop-line-preserved
loop-line-preserved c =
    rw (
      c.in_ok-push.ensures.items,
      take_more c.args.lines.now c.loop-line.line-index (record {
        ref_ptr = (0, 0);
        now = [];
      }) c.loop-line-test.true,
      map-append,
    )
    (all_zipped_more IsSignatureLine (texts_of (take c.loop-line.line-index c.args.lines.now))
    c.loop-line.signatures.items _ c.in-Some.signature c.loop-line.invariant
    (rw c.in-Some.is at c.in_ok-signature.ensures))
