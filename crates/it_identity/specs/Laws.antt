-- What is proved about these definitions.
use Rattle.std.specs.Prelude.{◌≡◌, ℕ, ◌*◌, ◌^◌, ◌<◌}
use Rattle.serde_json.specs.Data.{Data}
use Rattle.it_identity.specs.Identity.{IsIdentity, IsOfBytes}
use Rattle.it_identity.specs.KeyObject.{DescribesIdentity}
use Rattle.it_identity.specs.Name.{number_of}
use Rattle.it_identity.specs.declared.identity.Identity.{Identity}

-- a key object describes at most one identity
abbrev pub OneIdentity : Type 0
OneIdentity = (d : Data) (x y : Identity) → DescribesIdentity d x → DescribesIdentity d y → x ≡ y

-- two identities made of bytes, with one number, are one identity
abbrev pub NumbersTellIdentities : Type 0
NumbersTellIdentities = (one other : Identity) → IsIdentity one → IsIdentity other
    → IsOfBytes one → IsOfBytes other → number_of one ≡ number_of other → one ≡ other

-- each number that fits in 1,028 bytes is below that of an identity
abbrev pub NumbersAreLarge : Type 0
NumbersAreLarge = (identity : Identity) → IsIdentity identity
    → (n : ℕ) → n < 2 ^ (8 * 1028) → n < number_of identity
