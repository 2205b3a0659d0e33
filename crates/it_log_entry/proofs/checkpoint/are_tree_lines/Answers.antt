use Rattle.std.proofs.Common.{arith}
use Rattle.it_log_entry.proofs.Bodies.{mapped}
use Rattle.it_log_entry.proofs.Checkpoints.{tree_lines}
use Rattle.it_log_entry.proofs.checkpoint.are_tree_lines.Goals as goal

pub returns : goal.returns
returns c = mapped c.is_size_line.result _ _ (λ b test. tree_lines c.args.lines.now _ b (omega arith) test)
    c.is_size_line.ensures
