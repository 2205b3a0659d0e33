use Rattle.std.proofs.Common.{◌≡◌, ◌∙◌, ℕ, List, ap, arith, map, subst, take, take_all}
use Rattle.it_dsse.proofs.Keeping.{cut}
use Rattle.it_dsse.specs.declared.key_object.KeyObject.{KeyObject}
use Rattle.it_chain.specs.Answer.{signers as signers_of}
use Rattle.it_chain.specs.Signers.{entry_of}
use Rattle.it_step_evidence.specs.inside.Counting.{AreKeys}
use Rattle.it_step_evidence.proofs.ClaimedFor.{lent}
use Rattle.it_step_evidence.proofs.Keys.{keys_more, no_keys}
use Rattle.it_step_evidence.proofs.counted_keys.counted_keys.Goals as goal

pub loop-signer-init : goal.loop-signer-init
loop-signer-init g c =
    let panel = g.C.Checks.panel c.args.checks.now in
    rw c.new-keys.ensures.items
    (no_keys panel c.args.step.now.name (map lent c.args.files.now))

pub loop-signer-preserved : goal.loop-signer-preserved
loop-signer-preserved g c =
    let panel = g.C.Checks.panel c.args.checks.now in
    let signers = c.deref-signer-items.result.now in
    let i = c.loop-signer.signer-index in
    let signer = c.signer-item.result in
    rw (
      c.in_ok-push_some.ensures,
      cut entry_of signers i signer c.loop-signer-test.true c.signer-item.is,
    )
    (keys_more panel c.args.step.now.name (map lent c.args.files.now)
    (map entry_of (take i signers)) c.loop-signer.keys.items (entry_of signer)
    c.in_ok-key.key c.loop-signer.invariant (rw c.as_str.ensures at c.in_ok-key.ensures))

pub returns : goal.returns
returns g c =
    let panel = g.C.Checks.panel c.args.checks.now in
    let items = c.deref-signer-items.result.now in
    let i = c.loop-signer.signer-index in
    let all : map entry_of (take i items) ≡ signers_of c.args.layout.now c.args.step.now =
    ap (map entry_of) (take_all i items (omega arith) ∙ c.deref-signer-items.ensures.value)
    ∙ c.in_ok-signers.ensures in
    subst (λ (es : List (List ℕ × KeyObject)). AreKeys panel c.args.step.now.name
    (map lent c.args.files.now) es c.loop-signer.keys.items) all c.loop-signer.invariant
