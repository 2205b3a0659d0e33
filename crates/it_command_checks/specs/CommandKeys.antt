-- The keys that the checks of a command find (this profile's choice).
use Rattle.std.specs.Prelude.{length, IsSome}
use Rattle.it_dsse.specs.Panel.{KeyNumber}
use Rattle.it_public_keys.specs.OwnChecks.{own_checks}
use Rattle.it_public_keys.specs.OwnKeys.{found_number as own_number, Stands as OwnStands}
use Rattle.it_command_checks.specs.declared.command_checks.CommandChecks.{CommandChecks}
use Rattle.it_command_checks.specs.declared.command_checks.CommandKey.{CommandKey}
use Rattle.it_command_checks.specs.declared.command_checks.CommandKey.TheVariants.{Own, Identity}

-- the number of a key in the panel
abbrev pub found_number : CommandChecks → CommandKey → KeyNumber
found_number checks (Own key) = own_number checks.own key
found_number checks (Identity key) =
    (length (own_checks checks.own.rings.items checks.own.public_keys), key)

-- the key was found by these checks
abbrev pub Stands : CommandChecks → CommandKey → Type 0
Stands checks (Own key) = OwnStands checks.own key
Stands checks (Identity key) = IsSome checks.vouched
