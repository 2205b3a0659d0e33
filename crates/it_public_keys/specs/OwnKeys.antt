-- The keys that the checks of a command find (this profile's choice).
use Rattle.std.specs.Prelude.{◌≡◌, ◌<◌, true, length}
use Rattle.it_dsse.specs.Panel.{KeyNumber}
use Rattle.it_public_keys.specs.NamedKeys.{number_of}
use Rattle.it_public_keys.specs.declared.found_key.FoundKey.{FoundKey}
use Rattle.it_public_keys.specs.declared.found_key.FoundKey.TheVariants.{Once, Shared}
use Rattle.it_public_keys.specs.declared.key.Key.{Key}
use Rattle.it_public_keys.specs.declared.own_checks.OwnChecks.{OwnChecks}
use Rattle.it_public_keys.specs.declared.own_checks.OwnKey.{OwnKey}
use Rattle.it_public_keys.specs.declared.own_checks.OwnKey.TheVariants.{Ring, Public}

-- the key that was found
abbrev pub found_key : FoundKey → Key
found_key (Once key) = key
found_key (Shared key) = key.value

-- the number of a key in the panel
abbrev pub found_number : OwnChecks → OwnKey → KeyNumber
found_number checks (Ring place number) = (place, number)
found_number checks (Public key) = (length checks.rings.items, number_of (found_key key))

-- the key was found by these checks
abbrev pub Stands : OwnChecks → OwnKey → Type 0
Stands checks (Ring place number) = place < length checks.rings.items
Stands checks (Public key) = checks.public_keys ≡ true
