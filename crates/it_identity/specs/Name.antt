-- Names and numbers of identities (this profile's choice), in the manner of those of public keys,
-- whose kinds are 1 to 4; a key of kind 4 has a name of another length.
use Rattle.std.specs.Prelude.{ℕ, ◌+◌, ◌-◌, ◌/◌, ◌%◌, List, ◌∷◌, ◌++◌, length, replicate}
use Rattle.it_numbers.specs.Bytes.{big}
use Rattle.it_identity.specs.declared.identity.Identity.{Identity}

-- the kind of identities, two bytes for the count of each text, the texts, and zeros up to 1,029
-- bytes
unfoldable pub identity_name : Identity → List ℕ
identity_name identity =
    4 ∷ length identity.name / 256 ∷ length identity.name % 256
    ∷ length identity.issuer / 256 ∷ length identity.issuer % 256
    ∷ (identity.name ++ identity.issuer
    ++ replicate (1024 - (length identity.name + length identity.issuer)) 0)

-- the number of an identity
abbrev pub number_of : Identity → ℕ
number_of identity = big (identity_name identity)
