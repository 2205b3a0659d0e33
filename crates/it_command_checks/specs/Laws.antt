-- What is proved about these definitions.
use Rattle.std.specs.Prelude.{◌≡◌, ℕ, List, Bool, Some, None, codes}
use Rattle.it_dsse.specs.Panel.{KeyNumber, panel_of}
use Rattle.it_dsse.specs.declared.key_object.KeyObject.{KeyObject}
use Rattle.it_dsse.specs.declared.ring_entry.RingEntry.{RingEntry}
use Rattle.it_public_keys.specs.OwnChecks.{own_checks}
use Rattle.it_vouched.specs.Check.{vouched_check}
use Rattle.it_vouched.specs.declared.vouched.Vouched.{Vouched}

-- no ring and no public key knows an object of the scheme of identities
abbrev pub OwnChecksKnowNoIdentities : Type 0
OwnChecksKnowNoIdentities =
    (rings : List (List RingEntry)) (asked : Bool) (id : List ℕ) (object : KeyObject)
    → object.scheme ≡ codes "Fulcio"
    → (panel_of (own_checks rings asked)).key_of id object ≡ None

-- lines know no object that a ring or a public key knows, so the order of the checks does not
-- matter
abbrev pub LinesKnowNoOwnKeys : Type 0
LinesKnowNoOwnKeys =
    (rings : List (List RingEntry)) (asked : Bool) (vouched : List Vouched) (id : List ℕ)
    (object : KeyObject) (n : KeyNumber)
    → (panel_of (own_checks rings asked)).key_of id object ≡ Some n
    → (vouched_check vouched).key_of id object ≡ None
