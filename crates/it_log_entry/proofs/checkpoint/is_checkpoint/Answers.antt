use Rattle.std.proofs.Common.{arith}
use Rattle.it_log_entry.proofs.Bodies.{mapped}
use Rattle.it_log_entry.proofs.Checkpoints.{checkpoint_lines}
use Rattle.it_log_entry.proofs.checkpoint.is_checkpoint.Goals as goal

pub returns : goal.returns
returns c = mapped c.is_of_root.result _ _ (λ b test.
    checkpoint_lines c.args.lines.now _ _ c.args.size c.args.root.now b (omega arith)
    (c.in_ok-is_of_size.ensures.0 c.if-not-branch.false) test) c.is_of_root.ensures
