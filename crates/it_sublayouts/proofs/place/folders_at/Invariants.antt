use Rattle.std.proofs.Common.{◌≡◌, map, string_bytes, take}
use Rattle.it_sublayouts.specs.Counted.{folders_of}
use Rattle.it_sublayouts.proofs.place.folders_at.Given as goal

-- the folders of the places so far
abbrev pub invariant-loop-step : goal.invariant-loop-step
invariant-loop-step l =
    map string_bytes l.folders.items ≡ folders_of (take l.step-index l.place)
