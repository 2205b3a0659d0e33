use Rattle.std.proofs.Common.{◌≡◌, ◌∙◌, List, eqb-true, length, subst, sym}
use Rattle.it_dsse.specs.Signed.{AreThose}
use Rattle.it_docs.specs.declared.policy.Builder.{Builder}
use Rattle.it_prov.specs.Meets.{SignedByBuilder}
use Rattle.it_prov_notes.specs.inside.Judged.{AreSigners, lent_builders}
use Rattle.it_prov_notes.proofs.WhoSigned.{none_signed}
use Rattle.it_prov_notes.proofs.envelope.envelope_misses.Goals as goal

pub returns-then-not-is_empty : goal.returns-then-not-is_empty
returns-then-not-is_empty g c =
    let panel = g.C.Checks.panel c.args.checks.now in
    let signers = c.in_ok-signers.signers.items in
    let are : AreSigners panel c.args.delivery.now.expectation.now c.args.envelope.now signers =
    subst (λ (builders : List Builder). AreThose (SignedByBuilder panel c.args.envelope.now)
    builders (lent_builders signers)) c.as_slice-builders.ensures c.in_ok-signers.ensures in
    λ line reads. c.signed_misses.ensures panel line reads (rw c.as_slice.ensures.value are)

pub returns : goal.returns
returns g c =
    let panel = g.C.Checks.panel c.args.checks.now in
    let signers = c.in_ok-signers.signers.items in
    let are : AreSigners panel c.args.delivery.now.expectation.now c.args.envelope.now signers =
    subst (λ (builders : List Builder). AreThose (SignedByBuilder panel c.args.envelope.now)
    builders (lent_builders signers)) c.as_slice-builders.ensures c.in_ok-signers.ensures in
    let none : length signers ≡ 0 = sym (c.in_ok-signers.signers.ok.0)
    ∙ eqb-true c.in_ok-signers.signers.len 0 (sym c.is_empty.ensures ∙ c.if-not-is_empty.false) in
    λ line reads. c.unsigned_misses.ensures line reads
    (none_signed panel c.args.delivery.now.expectation.now c.args.envelope.now signers are none)
