use Rattle.std.proofs.Common.{◌≡◌, ◌∙◌, ℕ, ap, arith, length, not, sym}
use Rattle.std.specs.Bool.{◌==◌}
use Rattle.it_chain.proofs.Walks.{nil_of}
use Rattle.it_nonce_uses.proofs.FilesUsed.{body_found, no_uses, not_found, unclaimed}
use Rattle.it_nonce_uses.proofs.file_uses.file_uses.Goals as goal

pub returns-in_default : goal.returns-in_default
returns-in_default g c =
    let functionary = c.args.functionary.now in
    rw c.new.ensures.items
    (unclaimed (g.C.Checks.panel c.args.checks.now) functionary.step.now functionary.signer
    functionary.object.now c.args.file.now c.in_default.ensures)

pub returns-then-is_empty : goal.returns-then-is_empty
returns-then-is_empty g c =
    let functionary = c.args.functionary.now in
    let uses = c.in_ok-uses.uses.items in
    let counted : length uses ≡ c.in_ok-uses.uses.len = omega (arith, c.in_ok-uses.uses.ok.0) in
    no_uses (g.C.Checks.panel c.args.checks.now) functionary.step.now functionary.signer
    functionary.object.now c.args.file.now c.in-Some.envelope.now c.in-Some.ensures uses
    (nil_of uses (ap (λ (n : ℕ). n == 0) counted ∙ sym c.is_empty.ensures ∙ c.if-is_empty.true))
    c.in_ok-uses.ensures

pub returns-then-is_none : goal.returns-then-is_none
returns-then-is_none g c =
    let functionary = c.args.functionary.now in
    rw c.new-then-is_none.ensures.items
    (not_found (g.C.Checks.panel c.args.checks.now) functionary.step.now functionary.signer
    functionary.object.now c.args.file.now c.in-Some.envelope.now c.in-Some.ensures
    c.in_ok-body.body (rw c.as_slice.ensures at c.in_ok-body.ensures)
    (c.is_none.ensures ∙ ap not c.if-is_none.true))

pub returns : goal.returns
returns g c =
    let functionary = c.args.functionary.now in
    body_found (g.C.Checks.panel c.args.checks.now) functionary.step.now functionary.signer
    functionary.object.now c.args.file.now c.in-Some.envelope.now c.in-Some.ensures
    c.in_ok-uses.uses.items c.in_ok-body.body (rw c.as_slice.ensures at c.in_ok-body.ensures)
    (c.is_none.ensures ∙ ap not c.if-is_none.false) c.in_ok-uses.ensures
