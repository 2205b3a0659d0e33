-- The written form of an envelope is one line.
use Rattle.std.proofs.Common.{◌≡◌, ◌∙◌, ℕ, List, [], ◌∷◌, ◌==◌, Contains, refl, sym, ap}
use Rattle.std.proofs.Common.{map, false, subst}
use Rattle.std.proofs.lemmas.Bool.{ne_eqb}
use Rattle.json.specs.Lex.{tokens}
use Rattle.json.specs.Print.{print}
use Rattle.json.specs.Tree.{HasNumbers, ItemsHaveNumbers, json_tokens}
use Rattle.json.proofs.Printed.Tokens.{tokens-print}
use Rattle.json.proofs.Printed.Trees.{ArePrintable-json_tokens}
use Rattle.serde_json.specs.View.{items_of}
use Rattle.serde_json.specs.Written.{items_outline, outline}
use Rattle.serde_json.proofs.Texts.{print-outline}
use Rattle.it_base.proofs.Members.{in_head, in_tail}
use Rattle.it_dsse.specs.Written.{document_of, signature_document, written_form}
use Rattle.it_dsse.specs.declared.envelope.Envelope.{Envelope}
use Rattle.it_dsse.specs.declared.envelope.Signature.{Signature}
use Rattle.it_making.proofs.PrintedLines.{one_line}
use Rattle.it_unwrapped.specs.inside.Added.{IsOneLine}

signatures_have : (signatures : List Signature)
    → ItemsHaveNumbers (items_outline (items_of (map signature_document signatures)))
signatures_have [] = tt
signatures_have (signature ∷ signatures) = ((tt, (tt, tt)), signatures_have signatures)

-- no number stands in an envelope, so each of its numbers is written as one
envelope_has : (envelope : Envelope) → HasNumbers (outline (document_of envelope))
envelope_has envelope = (tt, (tt, (signatures_have envelope.signatures, tt)))

-- the written form is what is printed of its own tokens
written_compact : (envelope : Envelope)
    → written_form envelope ≡ print (tokens (written_form envelope))
unfolding written_form
written_compact envelope =
    let d = document_of envelope in
    let ts = json_tokens (outline d) in
    let printed = print-outline d in
    let same = tokens-print ts (ArePrintable-json_tokens (outline d) (envelope_has envelope)) in
    sym printed ∙ ap print (sym same ∙ ap tokens printed)

-- bytes without a line feed are one line
no_feed_one_line : (line : List ℕ) → ¬ Contains line 10 → IsOneLine line
no_feed_one_line [] none more = refl
no_feed_one_line (byte ∷ line) none more =
    let plain : (byte == 10) ≡ false =
    ne_eqb byte 10 (λ e. none (subst (λ x. Contains (byte ∷ line) x) e (in_head byte line))) in
    let ends = no_feed_one_line line (λ among. none (in_tail byte line 10 among)) more in
    rw (plain, ends) refl

pub one_line_written : (envelope : Envelope) → IsOneLine (written_form envelope)
one_line_written envelope =
    let text = written_form envelope in
    no_feed_one_line text (one_line text (written_compact envelope))
