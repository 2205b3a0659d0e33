use Rattle.std.proofs.Common.{◌∙◌, sym, ap, string_bytes}
use Rattle.std.specs.FinMap.{get, insert}
use Rattle.it_base.proofs.TableLemmas.{get-named_entries, from_entries-insert}
use Rattle.it_base.proofs.table.Table.insert.Goals as goal

pub returns-clause-old : goal.returns-clause-old
returns-clause-old g c = c.in_ok-before.ensures.old
    ∙ sym (get-named_entries (string_bytes c.args.name) c.self.inside.by_name.entries)
    ∙ ap (λ m. get m (string_bytes c.args.name)) c.self.view_is

pub returns-clause-ok : goal.returns-clause-ok
returns-clause-ok g c =
    from_entries-insert c.self.inside.by_name.entries c.insert.new.self.entries c.args.name
    c.args.value c.insert.ensures.was_ordered c.insert.ensures.ordered
    c.in_ok-before.ensures.entries
    ∙ ap (λ m. insert m (string_bytes c.args.name) c.args.value) c.self.view_is
