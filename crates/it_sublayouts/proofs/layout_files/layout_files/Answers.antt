use Rattle.std.proofs.Common.{refl}
use Rattle.it_sublayouts.specs.inside.Signed.{IsLayoutFile}
use Rattle.it_sublayouts.proofs.Files.{kept_more, passed_more}
use Rattle.it_sublayouts.proofs.layout_files.layout_files.Goals as goal
use Rattle.it_sublayouts.proofs.layout_files.layout_files.Goals.{
  then-is_layout+in_ok-push,
  else-is_layout,
}

pub loop-file-preserved : goal.loop-file-preserved
loop-file-preserved c =
    let files = c.args.files.now in
    let file = c.file-item.result in
    elim c.if-is_layout.branch [
      | then-is_layout+in_ok-push w ↦
          rw (w.kept-is, w.in_ok-push.ensures.items)
          (kept_more files c.loop-file.file-index file c.loop-file-test.true c.file-item.is
          c.loop-file.kept.items c.loop-file.invariant _ refl
          (c.in_ok-is_layout.ensures.0 w.if-is_layout.true))
      | else-is_layout w ↦
          let refuses : ¬ IsLayoutFile file =
          λ is. (let yes = c.in_ok-is_layout.ensures.1 is in cc (yes, w.if-is_layout.false)) in
          rw w.kept-is
          (passed_more files c.loop-file.file-index file c.loop-file-test.true c.file-item.is
          c.loop-file.kept.items c.loop-file.invariant refuses)
    ]
