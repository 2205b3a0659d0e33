-- Signatures by different keys with one number r (this profile's choice: signers that keep to FIPS
-- 186-5, section 6.3, make each with a nonce of its own, and r follows from the nonce).
use Rattle.std.specs.Prelude.{ℕ, List, [], ◌∷◌, Bool, ◌&&◌, nat_eq, if◌then◌else◌}
use Rattle.std.specs.Prelude.{Option, None, Some, find}
use Rattle.std.specs.List.{flat_map}
use Rattle.it_dsse.specs.Panel.{KeyNumber}
use Rattle.it_p256_limbs.specs.Numbers.{value_of}
use Rattle.it_nonces.specs.declared.nonce_use.NonceUse.{NonceUse}
use Rattle.it_nonces.specs.declared.shared.SharedNonce.{SharedNonce}

-- whether a signature has this number r
abbrev pub has_r : ℕ → NonceUse → Bool
has_r r at = nat_eq r (value_of at.r)

-- whether two numbers name one key
abbrev pub is_same_key : KeyNumber → KeyNumber → Bool
is_same_key a b = nat_eq a.0 b.0 && nat_eq a.1 b.1

-- what is found in a signature, where this is the first with its r: it is valid for another key
abbrev pub shared_with : NonceUse → NonceUse → List SharedNonce
shared_with at first =
    if is_same_key first.key at.key then []
    else record { signer = at.signer; first = first.signer } ∷ []

abbrev pub shared_with_first : NonceUse → Option NonceUse → List SharedNonce
shared_with_first at None = []
shared_with_first at (Some first) = shared_with at first

-- what is found in a signature among all
abbrev pub shared_in : List NonceUse → NonceUse → List SharedNonce
shared_in uses at = shared_with_first at (find (has_r (value_of at.r)) uses)

-- what is found in all, in their order
abbrev pub shared_nonces : List NonceUse → List SharedNonce
shared_nonces uses = flat_map (shared_in uses) uses
