use Rattle.std.proofs.Common.{◌≡◌, take, map}
use Rattle.serde_json.specs.View.{items_view, view}
use Rattle.it_base.specs.Sequence.{AreEach}
use Rattle.it_dsse.specs.Envelope.{IsSignature}
use Rattle.it_dsse.specs.Written.{signature_document}
use Rattle.it_dsse.proofs.written.signatures_value.Given as goal

abbrev pub invariant-loop-signature : goal.invariant-loop-signature
invariant-loop-signature l = record {
  document : map view l.values.items ≡ map signature_document (take l.signature-index l.signatures);
  reads_back : AreEach IsSignature (items_view l.values.items)
      (take l.signature-index l.signatures);
}
