use Rattle.std.proofs.Common.{◌≡◌, take}
use Rattle.std.specs.List.{flat_map}
use Rattle.it_file_commands.specs.BundleNotes.{bundle_note}
use Rattle.it_file_commands.proofs.signed_trusted.notes_on.Given as goal

-- the lines so far
abbrev pub invariant-loop-bundle : goal.invariant-loop-bundle
invariant-loop-bundle l = l.text.items ≡ flat_map bundle_note (take l.bundle-index l.silent)
