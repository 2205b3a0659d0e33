use Rattle.std.proofs.Common.{◌≡◌, ◌∙◌, ◌++◌, ap}
use Rattle.it_check.specs.FindingName.{name_of}
use Rattle.it_check.specs.FindingPlace.{document_of, pointer_of}
use Rattle.it_check.specs.FindingSentence.{sentence_of}
use Rattle.it_check.specs.declared.pointer_form.PointerForm.TheVariants.{Plain}
use Rattle.it_verify_command.proofs.shown_findings.shown_finding.Goals as goal

pub returns : goal.returns
returns c =
    let finding = c.args.finding.now in
    let document : c.in_ok-copy.field-0 ≡ document_of finding = c.in_ok-copy.ensures
    ∙ c.finding_document.ensures in
    let name : c.in_ok-copy-2.field-0 ≡ name_of finding = c.in_ok-copy-2.ensures
    ∙ c.finding_name.ensures in
    let at : c.in_ok-copied_place.field-0 ≡ c.args.at.now = c.in_ok-copied_place.ensures in
    let place : c.from.result ≡ pointer_of Plain finding = c.from.ensures
    ∙ c.in_ok-push_pointer.ensures
    ∙ ap (λ text. text ++ pointer_of Plain finding) c.new-place.ensures.items in
    let sentence : c.from-2.result ≡ sentence_of finding = c.from-2.ensures
    ∙ c.in_ok-push_sentence.ensures
    ∙ ap (λ text. text ++ sentence_of finding) c.new-sentence.ensures.items in
    λ i. record {
      document = document i;
      at = at i;
      name = name i;
      place = place i;
      sentence = sentence i;
    }
