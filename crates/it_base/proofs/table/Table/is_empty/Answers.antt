use Rattle.std.proofs.Common.{◌∙◌, sym}
use Rattle.it_base.proofs.TableLemmas.{empty-named_entries}
use Rattle.it_base.proofs.table.Table.is_empty.Goals as goal

pub returns : goal.returns
returns g c =
    let h = empty-named_entries c.self.inside.by_name.entries c.self.invariant in (
      λ r. sym c.self.view_is ∙ h.0 (c.is_empty.ensures.0 r),
      λ e. c.is_empty.ensures.1
          (h.1 (c.self.view_is ∙ e)),
    )
