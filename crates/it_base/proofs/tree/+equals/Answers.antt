use Rattle.std.proofs.Common.{◌∙◌, ap, arith}
use Rattle.it_base.specs.Equal.{equal_items, equal_fields}
use Rattle.it_base.specs.JsonView.{items_view, fields_view}
use Rattle.it_base.proofs.TreeLengths.{equal_items-lengths, equal_fields-lengths}
use Rattle.it_base.proofs.tree.+equals.Goals as goal

pub Trees::equals-returns-then-len : goal.Trees::equals-returns-then-len
Trees::equals-returns-then-len t c =
    equal_items-lengths c.self.inside.list.items c.other.inside.list.items (omega arith)
    ∙ ap (λ x. equal_items x (items_view c.other.inside.list.items)) c.self.view_is
    ∙ ap (equal_items c.args.self.now) c.other.view_is

pub Members::equals-returns-then-len : goal.Members::equals-returns-then-len
Members::equals-returns-then-len t c =
    equal_fields-lengths c.self.inside.by_name.entries c.other.inside.by_name.entries (omega arith)
    ∙ ap (λ x. equal_fields x (fields_view c.other.inside.by_name.entries)) c.self.view_is
    ∙ ap (equal_fields c.args.self.now) c.other.view_is
