use Rattle.std.proofs.Common.{◌≡◌, ◌++◌, take}
use Rattle.std.specs.List.{flat_map}
use Rattle.it_notes.specs.FileDetails.{id_form}
use Rattle.it_notes.proofs.file_detail.push_each.Given as goal

abbrev pub invariant-loop-id : goal.invariant-loop-id
invariant-loop-id l = l.text.items ≡ l.fn.text.items ++ flat_map id_form (take l.id-index l.ids)
