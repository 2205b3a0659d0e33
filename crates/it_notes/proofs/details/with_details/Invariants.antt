use Rattle.std.proofs.Common.{◌≡◌, ◌++◌, All, IfSome, map}
use Rattle.std.specs.Vec.Iter.{into_iter_items}
use Rattle.it_notes.specs.FileDetails.{TellsDetail}
use Rattle.it_notes.proofs.details.with_details.Given as goal

-- the notes so far are those that were given, each with a detail that is true
abbrev pub invariant-loop-note : goal.invariant-loop-note
invariant-loop-note l = record {
  given : l.yielded ++ into_iter_items l.note-iterator ≡ l.fn.notes.items;
  same : map (λ each. each.note) l.told.items ≡ l.yielded;
  details : All (λ each. IfSome each.detail (TellsDetail l.bundle l.step each.note)) l.told.items;
}
