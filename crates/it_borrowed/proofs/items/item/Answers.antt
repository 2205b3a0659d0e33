use Rattle.json.specs.Value.{value_view}
use Rattle.it_borrowed.proofs.Trees.{found_at_place}
use Rattle.it_borrowed.proofs.items.item.Goals as goal

pub returns : goal.returns
returns c = found_at_place c.args.place (value_view c.args.value.now) c.at.result c.at.ensures
