use Rattle.std.proofs.Common.{◌∙◌, sym, ap}
use Rattle.std.specs.FinMap.{entries}
use Rattle.it_base.specs.Table.{named_entries}
use Rattle.it_base.proofs.TableLemmas.{entries-named_entries}
use Rattle.it_base.proofs.table.Table.iter.Goals as goal

pub returns : goal.returns
returns g c =
    ap named_entries c.iter.ensures.rest
    ∙ sym (entries-named_entries c.self.inside.by_name.entries c.self.invariant)
    ∙ ap (λ m. entries m) c.self.view_is
