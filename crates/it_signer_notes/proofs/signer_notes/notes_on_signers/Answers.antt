use Rattle.std.proofs.Common.{◌∙◌, ap}
use Rattle.it_signer_notes.specs.SignerText.{text_of_signers}
use Rattle.it_signer_notes.specs.Signers.{unlisted}
use Rattle.it_signer_notes.specs.inside.Lent.{lent}
use Rattle.it_signer_notes.proofs.signer_notes.notes_on_signers.Goals as goal

pub returns : goal.returns
returns c =
    let vouched = c.args.vouched.now in
    let signers = rw c.deref.ensures.value at c.in_ok-signers.ensures in
    let text = rw (c.deref-2.ensures.value, c.deref-3.ensures.value) at c.in_ok-text.ensures in
    text ∙ ap (text_of_signers (lent c.in_ok-keys.keys.items)) signers
    ∙ ap (λ keys. text_of_signers keys (unlisted keys vouched)) c.in_ok-keys.ensures
