-- What is proved about these definitions.
use Rattle.std.specs.Prelude.{◌≡◌, ◌↔◌, ℕ, List, All, Any, Contains, IsTrue, Some}
use Rattle.serde_json.specs.Data.{Data}
use Rattle.it_dsse.specs.KeyObject.{IsKeyObject}
use Rattle.it_dsse.specs.declared.key_object.KeyObject.{KeyObject}
use Rattle.it_identity.specs.Identity.{IsIdentity, IsOfBytes}
use Rattle.it_identity.specs.KeyObject.{DescribesIdentity}
use Rattle.it_identity.specs.Name.{number_of}
use Rattle.it_identity.specs.declared.identity.Identity.{Identity}
use Rattle.it_trust_root.specs.declared.root.TrustedRoot.{TrustedRoot}
use Rattle.it_vouched.specs.Check.{vouched_check}
use Rattle.it_vouched.specs.Line.{AreVouched, LineVouches}
use Rattle.it_vouched.specs.ObjectIdentity.{describes, identity_in}
use Rattle.it_vouched.specs.declared.vouched.Vouched.{Vouched}

-- the identity of a key object is the one that the document describes
abbrev pub IdentityIsDescribed : Type 0
IdentityIsDescribed = (d : Data) (object : KeyObject) (identity : Identity) → IsKeyObject d object
    → DescribesIdentity d identity ↔ (identity_in object ≡ Some identity)

-- the test says whether this is the identity of the key object
abbrev pub DescribesIdentityIn : Type 0
DescribesIdentityIn = (object : KeyObject) (identity : Identity)
    → IsTrue (describes object identity) ↔ (identity_in object ≡ Some identity)

-- objects with keys of one number have one identity and one issuer, whatever their ids are
abbrev pub OneKey : KeyObject → KeyObject → Type 0
OneKey object other = (vouched : List Vouched) (id another : List ℕ) (n : ℕ)
    → (vouched_check vouched).key_of id object ≡ Some n
    → (vouched_check vouched).key_of another other ≡ Some n
    → (object.identity ≡ other.identity) × (object.issuer ≡ other.issuer)

-- a signature of a message is valid for an identity exactly where a line with this message and this
-- signature vouches for it
abbrev pub ValidMeansVouched : Type 0
ValidMeansVouched = (root : TrustedRoot) (lines : List (List ℕ)) (vouched : List Vouched)
    (identity : Identity) (message signature : List ℕ) → AreVouched root lines vouched
    → All (λ v. IsOfBytes v.identity) vouched → IsIdentity identity → IsOfBytes identity
    → IsTrue ((vouched_check vouched).is_valid (number_of identity) message signature)
    ↔ Any (λ line. LineVouches root line identity message signature) lines

-- further lines never make a valid signature invalid
abbrev pub MoreLinesSignMore : Type 0
MoreLinesSignMore = (root : TrustedRoot) (lines more : List (List ℕ)) (vouched wider : List Vouched)
    → AreVouched root lines vouched → AreVouched root more wider
    → ((line : List ℕ) → Contains lines line → Contains more line)
    → (n : ℕ) (message signature : List ℕ)
    → IsTrue ((vouched_check vouched).is_valid n message signature)
    → IsTrue ((vouched_check wider).is_valid n message signature)
