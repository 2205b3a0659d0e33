use Rattle.std.proofs.Common.{◌≡◌, ◌∷◌, [], ◌∙◌, List, append_assoc}
use Rattle.std.specs.Vec.Iter.{into_iter_items}
use Rattle.it_findings.specs.Joined.{Said}
use Rattle.it_findings.specs.declared.finding.Finding.{Finding}
use Rattle.it_strict.specs.Counting.{Counts}
use Rattle.it_findings.proofs.Joining.{joined_push}
use Rattle.it_strict.proofs.counting.counting_of.Goals as goal

pub loop-finding-preserved : goal.loop-finding-preserved
loop-finding-preserved c =
    let at = c.loop-finding in
    let finding = c.in-Some.finding in
    let steps : into_iter_items at.finding-iterator ≡ finding ∷ into_iter_items c.next.new.self =
    c.in-Some.ensures.steps.0 in
    let P : Finding → List Finding → Type 0 =
    λ each here. Said (Counts c.args.steps.now each) each here in
    record {
      given = append_assoc at.yielded (finding ∷ []) _ ∙ rw (← steps) at.invariant.given;
      counting = rw c.in_ok-append.ensures.items
          (joined_push P at.yielded finding at.counting.items c.in_ok-here.here.items
          at.invariant.counting c.in_ok-here.ensures);
    }
