use Rattle.std.proofs.Common.{◌∙◌, sym, ap}
use Rattle.std.specs.FinMap.{get}
use Rattle.it_base.proofs.TableLemmas.{get-named_entries}
use Rattle.it_base.proofs.table.Table.get.Goals as goal

pub returns : goal.returns
returns g c = c.get.ensures.value
    ∙ sym (get-named_entries c.args.name.now c.self.inside.by_name.entries)
    ∙ ap (λ m. get m c.args.name.now) c.self.view_is
