use Rattle.std.proofs.Common.{◌↔◌, IsTrue}
use Rattle.std.proofs.lemmas.Result.{IfOk-weaker}
use Rattle.it_chain.specs.Candidate.{IsCandidate}
use Rattle.it_docs.specs.Layout.{LayoutOf}
use Rattle.it_docs.specs.declared.layout.Layout.{Layout}
use Rattle.it_sublayouts.specs.inside.Signed.{IsLayoutFile}
use Rattle.it_sublayouts.proofs.Files.{layout_or_not}
use Rattle.it_sublayouts.proofs.layout_files.is_layout_file.Goals as goal

pub returns-in-None : goal.returns-in-None
returns-in-None c = (
  λ yes. absurd (cc yes),
  λ file. absurd ((rw c.in-None.is at c.candidate_in.ensures) file.envelope file.is_candidate),
)

pub returns-in-Some : goal.returns-in-Some
returns-in-Some c =
    let file = c.args.file.now in
    let envelope = c.in-Some.envelope.now in
    let is : IsCandidate file.bytes envelope = rw c.in-Some.is at c.candidate_in.ensures in
    IfOk-weaker c.is_layout.result
    (λ b. IsTrue b ↔ ((layout : Layout) × LayoutOf envelope.payload layout))
    (λ b. IsTrue b ↔ IsLayoutFile file) (layout_or_not file envelope is)
    (rw c.as_slice.ensures at c.is_layout.ensures)
