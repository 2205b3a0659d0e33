use Rattle.std.proofs.Common.{◌≡◌, ◌∙◌, ◌++◌, [], ap, codes}
use Rattle.it_strict.specs.ListedOnceText.{list_document, once_sentence}
use Rattle.it_verify_command.proofs.shown_found.shown_once.Goals as goal

pub returns : goal.returns
returns c =
    let once = c.args.once.now in
    let document : c.in_ok-copy.field-0 ≡ list_document once.list = c.in_ok-copy.ensures
    ∙ c.list_document.ensures in
    let name : c.in_ok-copy-2.field-0 ≡ codes "listed-once" = c.in_ok-copy-2.ensures in
    let at : c.from.result ≡ [] = c.from.ensures ∙ c.new.ensures.items in
    let place : c.from-2.result ≡ [] = c.from-2.ensures ∙ c.new-2.ensures.items in
    let sentence : c.from-3.result ≡ once_sentence once = c.from-3.ensures
    ∙ c.in_ok-push_once_sentence.ensures
    ∙ ap (λ text. text ++ once_sentence once) c.new-sentence.ensures.items in
    λ i. record {
      document = document i;
      at = at i;
      name = name i;
      place = place i;
      sentence = sentence i;
    }
