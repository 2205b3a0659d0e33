use Rattle.std.proofs.Common.{◌≡◌, ℕ, List, ◌++◌, map}
use Rattle.std.specs.FinMap.{entries}
use Rattle.it_base.specs.Table.{named_entries}
use Rattle.it_dsse.specs.Signed.{AreThose}
use Rattle.it_dsse.specs.declared.key_object.KeyObject.{KeyObject}
use Rattle.it_step_notes.specs.Signing.{IsNamedSigner}
use Rattle.it_step_notes.proofs.signing_ids.other_ids.Given as goal

-- those of the layout's ids so far that signed, and the keys that are left
abbrev pub invariant-loop-id : goal.invariant-loop-id
invariant-loop-id g l =
    (done : List (List ℕ × KeyObject))
    × (entries l.at.layout.now.keys ≡ done ++ named_entries l.id-iterator)
    × AreThose (IsNamedSigner (g.C.Checks.panel l.checks) l.at.layout.now l.envelope)
    (map (λ e. e.0) done) l.ids.items
