use Rattle.std.proofs.Common.{◌≡◌, take}
use Rattle.std.specs.Prelude.{filter}
use Rattle.std.specs.List.{list_any}
use Rattle.it_dsse.specs.Signed.{is_admitted}
use Rattle.it_notes.proofs.details.tried_for.Given as goal

-- those of the ids so far for which a signature is tried
abbrev pub invariant-loop-id : goal.invariant-loop-id
invariant-loop-id l = l.ids.items
    ≡ filter (λ id. list_any (is_admitted id) l.envelope.signatures) (take l.id-index l.id-items)
