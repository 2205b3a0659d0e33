-- The first place of each key in a list of keys.
use Rattle.std.specs.Prelude.{◌≡◌, ℕ, List, ◌∷◌, ◌++◌, length, replicate, None, Some, cond}
use Rattle.std.specs.Prelude.{position}
use Rattle.std.specs.FinMap.{get}
use Rattle.std.specs.Option.{option_or}
use Rattle.it_base.specs.Table.{Named}
use Rattle.it_findings.specs.SharedKeys.{is_key, is_same_key}
use Rattle.it_findings.specs.declared.key_use.KeyUse.{KeyUse}
use Rattle.it_findings.specs.declared.listed_key.ListedKey.{ListedKey}
use Rattle.it_findings.specs.declared.listed_key.ListedKey.TheVariants.{Identity, Public}

-- a text that is that of no other key: of an identity as many full stops as it has bytes, a colon,
-- and both of its texts; of a public key an equals sign and its public part
abbrev pub identity_name : List ℕ → List ℕ → List ℕ
identity_name identity issuer =
    replicate (length identity) 0x2e ++ 0x3a ∷ (identity ++ issuer)

abbrev pub name_of : ListedKey → List ℕ
name_of (Identity identity issuer) = identity_name identity issuer
name_of (Public public) = 0x3d ∷ public

-- under the text of each key, the first place at which the key stands
abbrev pub ArePlaces : List KeyUse → Named ℕ → Type 0
ArePlaces uses places =
    (key : ListedKey) → get places (name_of key) ≡ position (is_key key) uses

-- the places, with one more under the text of this key where it had none
abbrev pub KeepsFirst : ListedKey → ℕ → Named ℕ → Named ℕ → Type 0
KeepsFirst key place old new =
    (q : ListedKey) → get new (name_of q)
    ≡ option_or (get old (name_of q)) (cond (is_same_key q key) (Some place) None)
