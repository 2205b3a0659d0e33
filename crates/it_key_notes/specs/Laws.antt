-- What is shown of these definitions.
use Rattle.std.specs.Prelude.{ℕ, List, true}
use Rattle.it_dsse.specs.Panel.{panel_of}
use Rattle.it_dsse.specs.declared.key_object.KeyObject.{KeyObject}
use Rattle.it_dsse.specs.declared.ring_entry.RingEntry.{RingEntry}
use Rattle.it_public_keys.specs.OwnChecks.{own_checks}
use Rattle.it_key_notes.specs.Reasons.{IsPublic}
use Rattle.it_key_notes.specs.UnknownKeys.{IsUnknown}
use Rattle.it_key_notes.specs.declared.unknown_key.UnknownKey.{UnknownKey}

-- with any rings, where public keys are asked for, an object that describes one is known
abbrev pub AskedKeysAreKnown : Type 0
AskedKeysAreKnown =
    (rings : List (List RingEntry)) (id : List ℕ) (object : KeyObject) (note : UnknownKey)
    → IsPublic object → ¬ IsUnknown (panel_of (own_checks rings true)) id object note
