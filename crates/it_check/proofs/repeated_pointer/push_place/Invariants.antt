use Rattle.std.proofs.Common.{◌≡◌, ◌++◌, take}
use Rattle.std.specs.List.{flat_map}
use Rattle.it_check.specs.FindingPlace.{segment_form}
use Rattle.it_check.proofs.repeated_pointer.push_place.Given as goal

abbrev pub invariant-loop-segment : goal.invariant-loop-segment
invariant-loop-segment l =
    l.text.items
    ≡ l.fn.text.items ++ flat_map (segment_form l.form) (take l.segment-index l.place)
