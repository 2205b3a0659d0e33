use Rattle.std.proofs.Common.{◌≡◌, ◌∙◌, ◌∷◌, ◌+◌, ap, refl, sym}
use Rattle.it_identity.specs.declared.identity.Identity.{Identity}
use Rattle.it_signer_notes.proofs.Once.{Texts, from_behind, identity_of, once_less, once_more}
use Rattle.it_signer_notes.proofs.Once.{one_more, seen_more}
use Rattle.it_signer_notes.proofs.signers.each_once.Goals as goal
use Rattle.it_signer_notes.proofs.signers.each_once.Goals.{then-branch+in_ok-push, else-branch}

pub loop-one-preserved : goal.loop-one-preserved
loop-one-preserved c =
    let vouched = c.args.vouched.now in
    let i = c.loop-one.one-index in
    let others = from_behind i vouched in
    let all = from_behind (i + 1) vouched in
    let k : Texts = (c.as_slice.result, c.as_slice-in-loop-one.result) in
    let same : identity_of k ≡ c.one-item.result.identity =
    rw (c.as_slice.ensures, c.as_slice-in-loop-one.ensures) refl in
    let are : identity_of k ∷ others ≡ all = ap (λ (x : Identity). x ∷ others) same
    ∙ sym (one_more i vouched c.one-item.result c.loop-one-test.true c.one-item.is) in
    record {
      seen = seen_more others all k are c.loop-one.seen c.loop-one.invariant.seen c.insert.new.self
          c.in_ok-insert.ensures.updates.0;
      once = elim c.if-branch.branch [
        | then-branch+in_ok-push w ↦ rw (w.once-is, w.in_ok-push.ensures.items)
            (once_more others all k are c.loop-one.seen c.loop-one.invariant.seen
            c.in_ok-insert.field-0 c.in_ok-insert.ensures.added c.loop-one.once.items
            c.loop-one.invariant.once _ (sym same) w.if-branch.true)
        | else-branch w ↦ rw w.once-is
            (once_less others all k are c.loop-one.seen c.loop-one.invariant.seen
            c.in_ok-insert.field-0 c.in_ok-insert.ensures.added c.loop-one.once.items
            c.loop-one.invariant.once w.if-branch.false)
      ];
    }
