use Rattle.it_docs.specs.Layout.{LayoutOf}
use Rattle.it_base.proofs.Found.{finds_some}
use Rattle.it_step_notes.proofs.finding.is_layout.Goals as goal

pub returns : goal.returns
returns c =
    rw c.is_some.ensures (finds_some (LayoutOf c.args.payload.now) _ c.in_ok-layout_in.ensures)
