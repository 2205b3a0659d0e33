use Rattle.std.proofs.Common.{◌≡◌, ◌++◌, take}
use Rattle.it_json_report.specs.Json.{further}
use Rattle.it_json_report.proofs.lists.push_further_items.Given as goal

abbrev pub invariant-loop-item : goal.invariant-loop-item
invariant-loop-item g l = l.json.items ≡ l.fn.json.items
    ++ further g.T.JsonItem.form (take l.item-index l.items)
