use Rattle.std.proofs.Common.{◌≡◌, ◌∙◌, ℕ, List, ap, arith, map, subst, take_all}
use Rattle.it_dsse.specs.declared.key_object.KeyObject.{KeyObject}
use Rattle.it_chain.specs.Answer.{signers as signers_of}
use Rattle.it_chain.specs.Signers.{entry_of}
use Rattle.it_chain.specs.declared.signers.Signer.{Signer}
use Rattle.it_findings.specs.Joined.{JoinedEach}
use Rattle.it_findings.proofs.Joining.{joined_more}
use Rattle.it_nonces.specs.declared.nonce_use.NonceUse.{NonceUse}
use Rattle.it_nonce_uses.specs.LayoutUses.{SignerUses}
use Rattle.it_nonce_uses.proofs.Listed.{joined_image}
use Rattle.it_nonce_uses.proofs.layout_uses.step_uses.Goals as goal

pub loop-signer-preserved : goal.loop-signer-preserved
loop-signer-preserved g c =
    let level = c.args.level.now in
    rw c.in_ok-append.ensures.items
    (joined_more (λ place signer here. SignerUses (g.C.Checks.panel c.args.checks.now)
    level.at.now level.links.now c.args.step.now (entry_of signer) here)
    c.as_slice-signer-items.result.now c.loop-signer.signer-index c.signer-item.result
    c.loop-signer.uses.items c.in_ok-here.here.items c.loop-signer-test.true c.signer-item.is
    c.loop-signer.invariant c.in_ok-here.ensures)

pub returns : goal.returns
returns g c =
    let level = c.args.level.now in
    let items = c.as_slice-signer-items.result.now in
    let found = c.loop-signer.uses.items in
    let Uses : List ℕ × KeyObject → List NonceUse → Type 0 =
    SignerUses (g.C.Checks.panel c.args.checks.now) level.at.now level.links.now c.args.step.now in
    let are : map entry_of items ≡ signers_of level.layout.now c.args.step.now =
    ap (map entry_of) c.as_slice-signer-items.ensures.value ∙ c.in_ok-signers.ensures in
    subst (λ entries. JoinedEach Uses entries found) are
    (joined_image entry_of Uses 0 items found
    (subst (λ ids. JoinedEach (λ (signer : Signer). Uses (entry_of signer)) ids found)
    (take_all c.loop-signer.signer-index items (omega arith)) c.loop-signer.invariant))
