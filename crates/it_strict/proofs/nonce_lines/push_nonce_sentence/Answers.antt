use Rattle.std.proofs.Common.{◌++◌, ◌∙◌, ap, append_assoc, codes, refl}
use Rattle.it_check.proofs.Appended.{appended}
use Rattle.it_strict.specs.NonceText.{nonce_sentence, signer_form}
use Rattle.it_strict.proofs.nonce_lines.push_nonce_sentence.Goals as goal

pub returns : goal.returns
unfolding nonce_sentence
returns c =
    let start = c.args.text.now.items in
    let words = codes "two keys signed with one nonce: " in
    let first = signer_form c.args.shared.now.first in
    let other = codes ", and " in
    let later = signer_form c.args.shared.now.signer in
    let before = c.in_ok-push_text-2.ensures ∙ ap (λ text. text ++ other) c.in_ok-push_signer.ensures
    ∙ ap (λ text. (text ++ first) ++ other) c.in_ok-push_text.ensures
    ∙ ap (λ text. text ++ other) (append_assoc start words first)
    ∙ append_assoc start (words ++ first) other in
    appended c.push_signer-2.result start c.push_text-2.new.text.items
    c.push_signer-2.new.text.items ((words ++ first) ++ other) later
    (nonce_sentence c.args.shared.now) before
    refl c.push_signer-2.ensures
