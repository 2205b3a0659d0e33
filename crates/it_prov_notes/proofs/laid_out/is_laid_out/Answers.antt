use Rattle.std.proofs.Common.{◌≡◌, ◌≢◌, ◌∙◌, ◌↔◌, [], IsTrue, ap, eqb, eqb-true, length, sym, true}
use Rattle.std.proofs.lemmas.List.{nil_from_length}
use Rattle.it_base.proofs.Found.{finds_some}
use Rattle.it_digest.specs.Sums.{lines_of}
use Rattle.it_dsse.specs.Envelope.{EnvelopeOf}
use Rattle.it_prov_notes.specs.LaidOut.{IsAnEnvelope}
use Rattle.it_prov_notes.proofs.LaidOut.{none_read, some_read}
use Rattle.it_prov_notes.proofs.laid_out.is_laid_out.Goals as goal

pub returns-then-not-is_empty : goal.returns-then-not-is_empty
returns-then-not-is_empty c =
    let lines = c.args.lines.now in
    let some : lines.envelopes.items ≢ [] = λ none.
    (let empty : eqb lines.envelopes.len 0 ≡ true =
    ap (λ n. eqb n 0) (lines.envelopes.ok.0 ∙ ap (λ es. length es) none) in
    let never = sym c.if-not-is_empty.true ∙ (c.is_empty.ensures ∙ empty) in cc) in
    let any = some_read 1 (lines_of c.args.provenance.now) lines.envelopes.items lines.places.items
    c.requires some in
    (λ t. absurd (cc t), λ laid. absurd (laid.1 any))

pub returns : goal.returns
returns c =
    let lines = c.args.lines.now in
    let none : lines.envelopes.items ≡ [] = nil_from_length lines.envelopes.items
    (sym lines.envelopes.ok.0
    ∙ eqb-true lines.envelopes.len 0 (sym c.is_empty.ensures ∙ c.if-not-is_empty.false)) in
    let no_line = none_read 1 (lines_of c.args.provenance.now) lines.envelopes.items
    lines.places.items c.requires none in
    let is : IsTrue c.is_some.result ↔ IsAnEnvelope c.args.provenance.now = rw c.is_some.ensures
    (finds_some (EnvelopeOf c.args.provenance.now) _ c.in_ok-envelope_in.ensures) in
    (λ t. (is.0 t, no_line), λ laid. is.1 laid.0)
