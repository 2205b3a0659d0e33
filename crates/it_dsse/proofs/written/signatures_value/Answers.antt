use Rattle.std.proofs.Common.{◌≡◌, ◌++◌, ◌∷◌, [], ◌+◌, ◌∙◌, ap, sym, take}
use Rattle.std.proofs.lemmas.List.{take_more}
use Rattle.serde_json.specs.View.{view}
use Rattle.it_base.proofs.Items.{each_push}
use Rattle.it_dsse.specs.Envelope.{IsSignature}
use Rattle.it_dsse.specs.Written.{signature_document}
use Rattle.it_dsse.proofs.Documents.{documents_more}
use Rattle.it_dsse.proofs.written.signatures_value.Goals as goal

pub loop-signature-preserved : goal.loop-signature-preserved
loop-signature-preserved c =
    let signatures = c.args.signatures.now in
    let i = c.loop-signature.signature-index in
    let signature = c.signature-item.result in
    let values = c.loop-signature.values.items in
    let value = c.in_ok-signature_value.field-0 in
    let cut : take (i + 1) signatures ≡ take i signatures ++ signature ∷ [] =
    take_more signatures i signature c.loop-signature-test.true
    ∙ ap (λ s. take i signatures ++ s ∷ []) (sym c.signature-item.is) in
    record {
      document = documents_more view signature_document values c.push.new.self.items signatures i
          value signature
          c.loop-signature-test.true c.signature-item.is c.loop-signature.invariant.document
          c.in_ok-signature_value.ensures.document c.in_ok-push.ensures.items;
      reads_back = rw (c.in_ok-push.ensures.items, cut)
          (each_push IsSignature values (take i signatures) value signature
          c.loop-signature.invariant.reads_back c.in_ok-signature_value.ensures.reads_back);
    }
