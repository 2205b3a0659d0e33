use Rattle.std.proofs.Common.{◌≡◌, drop}
use Rattle.std.specs.List.{list_any}
use Rattle.it_root_notes.specs.AuthorityText.{is_usable}
use Rattle.it_root_notes.proofs.authority_notes.has_usable.Given as goal

-- the answer is that of those that are left
abbrev pub invariant-loop-missed : goal.invariant-loop-missed
invariant-loop-missed l =
    list_any is_usable (drop l.missed-index l.shortfalls) ≡ list_any is_usable l.shortfalls
