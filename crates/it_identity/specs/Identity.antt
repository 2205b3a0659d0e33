-- Identities (this profile's choice; Sigstore's certificate identities).
use Rattle.std.specs.Prelude.{ℕ, ◌<◌, ◌≤◌, List, length, slice_index}
use Rattle.it_identity.specs.declared.identity.Identity.{Identity}

-- a text of 1 to 512 bytes
pub record IsShort (text : List ℕ) : Type 0 where
  pub some : 0 < length text
  pub few : length text ≤ 512

-- an identity: neither its name nor its issuer is empty or long
pub record IsIdentity (identity : Identity) : Type 0 where
  pub name : IsShort identity.name
  pub issuer : IsShort identity.issuer

-- both are made of bytes
pub record IsOfBytes (identity : Identity) : Type 0 where
  pub name : (k : ℕ) → slice_index identity.name k < 256
  pub issuer : (k : ℕ) → slice_index identity.issuer k < 256
