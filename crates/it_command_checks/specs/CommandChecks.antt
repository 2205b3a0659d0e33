-- The checks of a command, with what lines vouch for (this profile's choice).
use Rattle.std.specs.Prelude.{List, [], ◌∷◌, ◌++◌, Bool, Option, Some, None}
use Rattle.it_dsse.specs.Check.{Check}
use Rattle.it_dsse.specs.declared.ring_entry.RingEntry.{RingEntry}
use Rattle.it_public_keys.specs.OwnChecks.{own_checks}
use Rattle.it_vouched.specs.Check.{vouched_check}
use Rattle.it_vouched.specs.declared.vouched.Vouched.{Vouched}

-- the check by what lines vouch for, where there are such lines
abbrev pub vouched_checks : Option (List Vouched) → List Check
vouched_checks None = []
vouched_checks (Some lines) = vouched_check lines ∷ []

-- the checks by the rings, in order, by public keys, where they are asked for, and then by what
-- lines vouch for
abbrev pub command_checks : List (List RingEntry) → Bool → Option (List Vouched) → List Check
command_checks rings asked vouched = own_checks rings asked ++ vouched_checks vouched
