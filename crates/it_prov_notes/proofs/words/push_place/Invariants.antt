use Rattle.std.proofs.Common.{◌≡◌, ◌++◌, take}
use Rattle.std.specs.List.{flat_map}
use Rattle.it_prov_notes.specs.ProvenanceLines.{member_form}
use Rattle.it_prov_notes.proofs.words.push_place.Given as goal

-- the names so far, each in brackets
abbrev pub invariant-loop-name : goal.invariant-loop-name
invariant-loop-name l = l.text.items ≡ l.fn.text.items
    ++ flat_map member_form (take l.name-index l.names)
