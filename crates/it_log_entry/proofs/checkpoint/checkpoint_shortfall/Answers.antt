use Rattle.std.proofs.Common.{arith}
use Rattle.it_log_entry.specs.inside.Lines.{texts_of}
use Rattle.it_log_entry.proofs.Checkpoints.{other_tree, no_cut, no_signatures, no_signer, no_tree, not_signed}
use Rattle.it_log_entry.proofs.checkpoint.checkpoint_shortfall.Goals as goal

pub returns-in_default-cut_at_empty-clause-answer : goal.returns-in_default-cut_at_empty-clause-answer
returns-in_default-cut_at_empty-clause-answer c =
    let note = c.args.proof.now.checkpoint in
    let written = rw (c.as_bytes.ensures.value, c.as_str-note.ensures) at (rw c.in-Some.is at c.in_ok-all.ensures) in
    let none = rw c.as_slice.ensures.value at c.in_default-cut_at_empty.ensures in
    not_signed c.args.log.now.key note c.args.proof.now.size c.args.proof.now.root
    (no_cut note (texts_of c.in-Some.all.items) written none)

pub returns-in_default-2-clause-answer : goal.returns-in_default-2-clause-answer
returns-in_default-2-clause-answer c =
    let note = c.args.proof.now.checkpoint in
    let written = rw (c.as_bytes.ensures.value, c.as_str-note.ensures) at (rw c.in-Some.is at c.in_ok-all.ensures) in
    let cut = rw c.as_slice.ensures.value at c.in-Some-cut_at_empty.ensures in
    not_signed c.args.log.now.key note c.args.proof.now.size c.args.proof.now.root
    (no_signatures note (texts_of c.in-Some.all.items) (texts_of c.in-Some-cut_at_empty.lines.now)
    (texts_of c.in-Some-cut_at_empty.below.now) written cut (rw c.in_default-2.is at c.in_ok-signatures.ensures))

pub returns-then-not-branch-clause-answer : goal.returns-then-not-branch-clause-answer
returns-then-not-branch-clause-answer c =
    let written = rw (c.as_bytes.ensures.value, c.as_str-note.ensures) at (rw c.in-Some.is at c.in_ok-all.ensures) in
    let cut = rw c.as_slice.ensures.value at c.in-Some-cut_at_empty.ensures in
    no_tree c.args.log.now.key c.args.proof.now.checkpoint (texts_of c.in-Some.all.items) (texts_of c.in-Some-cut_at_empty.lines.now)
    (texts_of c.in-Some-cut_at_empty.below.now) c.args.proof.now.size c.args.proof.now.root (omega arith) written cut
    (λ are. let yes = c.in_ok-are_tree_lines.ensures.1 are in cc)

pub returns-then-not-branch-2-clause-answer : goal.returns-then-not-branch-2-clause-answer
returns-then-not-branch-2-clause-answer c =
    let written = rw (c.as_bytes.ensures.value, c.as_str-note.ensures) at (rw c.in-Some.is at c.in_ok-all.ensures) in
    let cut = rw c.as_slice.ensures.value at c.in-Some-cut_at_empty.ensures in
    let signed = rw c.in-Some-2.is at c.in_ok-signatures.ensures in
    other_tree c.args.log.now.key c.args.proof.now.checkpoint (texts_of c.in-Some.all.items)
    (texts_of c.in-Some-cut_at_empty.lines.now) (texts_of c.in-Some-cut_at_empty.below.now) c.in-Some-2.signatures
    c.args.proof.now.size c.args.proof.now.root written cut signed (c.in_ok-are_tree_lines.ensures.0 c.if-not-branch.false)
    (λ is. let yes = c.in_ok-is_checkpoint.ensures.1 is in cc)

pub returns-then-not-branch-3-clause-answer : goal.returns-then-not-branch-3-clause-answer
returns-then-not-branch-3-clause-answer c =
    let written = rw (c.as_bytes.ensures.value, c.as_str-note.ensures) at (rw c.in-Some.is at c.in_ok-all.ensures) in
    let cut = rw c.as_slice.ensures.value at c.in-Some-cut_at_empty.ensures in
    let signed = rw c.in-Some-2.is at c.in_ok-signatures.ensures in
    let test = rw c.as_slice-2.ensures at c.in_ok-is_signed_by.ensures.answer in
    no_signer c.args.log.now.key c.args.proof.now.checkpoint (texts_of c.in-Some.all.items)
    (texts_of c.in-Some-cut_at_empty.lines.now) (texts_of c.in-Some-cut_at_empty.below.now) c.in-Some-2.signatures
    c.args.proof.now.size c.args.proof.now.root written cut signed (c.in_ok-are_tree_lines.ensures.0 c.if-not-branch.false)
    (c.in_ok-is_checkpoint.ensures.0 c.if-not-branch-2.false)
    (λ is. let yes = test.1 is in cc)
