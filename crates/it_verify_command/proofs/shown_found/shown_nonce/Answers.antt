use Rattle.std.proofs.Common.{◌≡◌, ◌∙◌, ◌++◌, ap, codes}
use Rattle.it_strict.specs.NonceText.{keys_at, keys_document, keys_pointer, nonce_sentence}
use Rattle.it_verify_command.proofs.shown_found.shown_nonce.Goals as goal

pub returns : goal.returns
returns c =
    let shared = c.args.shared.now in
    let role = shared.signer.role in
    let document : c.in_ok-copy.field-0 ≡ keys_document role = c.in_ok-copy.ensures
    ∙ c.keys_document.ensures in
    let name : c.in_ok-copy-2.field-0 ≡ codes "shared-nonce" = c.in_ok-copy-2.ensures in
    let at : c.in_ok-copied_place.field-0 ≡ keys_at role = c.in_ok-copied_place.ensures
    ∙ c.keys_at.ensures in
    let place : c.from.result ≡ keys_pointer role = c.from.ensures ∙ c.in_ok-place.ensures.items
    ∙ c.as_bytes.ensures.value ∙ c.keys_pointer.ensures in
    let sentence : c.from-2.result ≡ nonce_sentence shared = c.from-2.ensures
    ∙ c.in_ok-push_nonce_sentence.ensures
    ∙ ap (λ text. text ++ nonce_sentence shared) c.new-sentence.ensures.items in
    λ i. record {
      document = document i;
      at = at i;
      name = name i;
      place = place i;
      sentence = sentence i;
    }
