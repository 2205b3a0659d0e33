-- How many checks of rings and public keys there are, and where their keys are.
use Rattle.std.proofs.Common.{◌≡◌, ℕ, ◌+◌, ◌<◌, List, Bool, true, false, arith, cond, length, map, refl}
use Rattle.std.specs.Int.{from_bool}
use Rattle.std.proofs.lemmas.List.{length-append, length-map}
use Rattle.it_dsse.specs.Ring.{ring_check}
use Rattle.it_dsse.specs.declared.ring_entry.RingEntry.{RingEntry}
use Rattle.it_public_keys.specs.OwnChecks.{key_checks, own_checks}
use Rattle.it_public_keys.specs.OwnKeys.{Stands, found_number}
use Rattle.it_public_keys.specs.declared.own_checks.OwnChecks.{OwnChecks}
use Rattle.it_public_keys.specs.declared.own_checks.OwnKey.{OwnKey}
use Rattle.it_public_keys.specs.declared.own_checks.OwnKey.TheVariants.{Ring, Public}

key_checks_long : (asked : Bool) → length (key_checks asked) ≡ cond asked 1 0
key_checks_long true = refl
key_checks_long false = refl

pub own_long : (rings : List (List RingEntry)) (asked : Bool)
    → length (own_checks rings asked) ≡ length rings + cond asked 1 0
own_long rings asked =
    let both = length-append (map ring_check rings) (key_checks asked) in
    let first = length-map rings ring_check in
    let last = key_checks_long asked in
    omega arith

-- and how many a command counts
pub counted : (rings : List (List RingEntry)) (asked : Bool) (more count : ℕ)
    → more ≡ from_bool asked → count ≡ length rings + more
    → count ≡ length (own_checks rings asked)
counted rings true more count one is = omega (arith, own_long rings true, one, is)
counted rings false more count none is = omega (arith, own_long rings false, none, is)

public_placed : (rings : List (List RingEntry)) (asked : Bool) → asked ≡ true
    → length rings < length (own_checks rings asked)
public_placed rings true is = omega (arith, own_long rings true)
public_placed rings false is = cc

-- each is at a place of these checks
pub placed : (own : OwnChecks) (key : OwnKey) → Stands own key
    → (found_number own key).0 < length (own_checks own.rings.items own.public_keys)
placed own (Ring place number) stands =
    omega (arith, own_long own.rings.items own.public_keys, stands)
placed own (Public key) stands = public_placed own.rings.items own.public_keys stands
