use Rattle.std.proofs.Common.{refl}
use Rattle.it_chain.specs.ClaimedFiles.{IsClaimed}
use Rattle.it_step_evidence.proofs.ClaimedFor.{claimed_last, passed_by}
use Rattle.it_step_evidence.proofs.claimed.claimed_files.Goals as goal
use Rattle.it_step_evidence.proofs.claimed.claimed_files.Goals.{
  then-is_claimed+in_ok-push,
  else-is_claimed,
}

pub loop-file-preserved : goal.loop-file-preserved
loop-file-preserved c =
    let step = c.args.step.now in
    let files = c.args.files.now in
    let i = c.loop-file.file-index in
    let file = c.file-item.result in
    elim c.if-is_claimed.branch [
      | then-is_claimed+in_ok-push w ↦
          let claimed : IsClaimed step file.name =
          rw c.name.ensures at (c.is_claimed.ensures.0 w.if-is_claimed.true) in
          rw (w.found-is, w.in_ok-push.ensures.items)
          (claimed_last step files i file c.loop-file-test.true c.file-item.is
          c.loop-file.found.items c.loop-file.invariant _ refl claimed)
      | else-is_claimed w ↦
          let unclaimed : ¬ IsClaimed step file.name =
          λ claimed. (let is = c.is_claimed.ensures.1 (rw c.name.ensures claimed) in
          cc (is, w.if-is_claimed.false)) in
          rw w.found-is
          (passed_by step files i file c.loop-file-test.true c.file-item.is
          c.loop-file.found.items c.loop-file.invariant unclaimed)
    ]
