use Rattle.std.proofs.Common.{◌∙◌, ◌++◌, ◌-◌, ◌≤◌, ap, arith, length, sym}
use Rattle.std.proofs.lemmas.List.{length-take-le}
use Rattle.it_signer_notes.specs.SignerText.{further_text}
use Rattle.it_signer_notes.specs.inside.Lent.{lent}
use Rattle.it_signer_notes.proofs.Showing.{some_shown}
use Rattle.it_signer_notes.proofs.signer_notes.text_of.Goals as goal

pub slice_bounds-lines_of-end : goal.slice_bounds-lines_of-end
slice_bounds-lines_of-end c =
    let within : 39 ≤ length c.args.signers.now = omega arith in
    sym (length-take-le 39 c.args.signers.now within)

pub returns : goal.returns
returns c =
    c.in_ok-push_further.ensures
    ∙ ap (λ l. l ++ further_text (length c.args.signers.now - 39)) c.in_ok-text.ensures
    ∙ some_shown (lent c.args.keys.now) c.args.signers.now c.if-signers-le-MOST_LINES.false
