-- The file of the keys in files (this profile's choice), and why none is written.
use Rattle.std.specs.Prelude.{◌≡◌, ◌≢◌, ℕ, List, ◌∷◌, ◌++◌, Option, Some, None, IsSome, length}
use Rattle.std.specs.FinMap.{empty, insert}
use Rattle.std.specs.List.{AllZip, fold}
use Rattle.it_base.specs.Table.{Named}
use Rattle.it_dsse.specs.declared.key_object.KeyObject.{KeyObject}
use Rattle.it_outcome.specs.Outcome.{IsOutputFault}
use Rattle.it_key_commands.specs.KeyFile.{IsFileFault, IsKeyFile}
use Rattle.it_key_commands.specs.KeyId.{key_id}
use Rattle.it_key_commands.specs.KeysFile.{KeysOf, keys_form}
use Rattle.it_key_commands.specs.declared.fault.FileFault.{FileFault}
use Rattle.it_key_commands.specs.declared.fault.KeyFault.{KeyFault}
use Rattle.it_key_commands.specs.declared.fault.KeyFault.TheVariants.{
  Run,
  UnknownId,
  NoPublicKey,
  BadSignature,
  NotOneFile,
  BadFile,
}

-- the id of a key object in the file: the name, if one is given, otherwise its own
abbrev pub id_under : Option (List ℕ) → KeyObject → List ℕ
id_under None object = key_id object
id_under (Some name) object = name

-- the key objects under their ids, inserted in order
abbrev pub keys_of : Option (List ℕ) → List KeyObject → Named KeyObject
keys_of name objects =
    fold (λ keys object. insert keys (id_under name object) object) empty objects

-- the text is the file of the keys in the files, and reads back as these keys and no others
pub record IsKeyOutput (files : List (List ℕ)) (name : Option (List ℕ)) (text : List ℕ) : Type 0
  where
    pub objects : List KeyObject
    pub are_keys : AllZip IsKeyFile files objects
    pub text_is : text ≡ keys_form (keys_of name objects)
    pub reads_back : KeysOf text (keys_of name objects)
    pub only : (keys : Named KeyObject) → KeysOf text keys → keys ≡ keys_of name objects

-- the first file that is not a public key has this place, counted from 0, and this is why
pub record IsFirstBadFile (files : List (List ℕ)) (place : ℕ) (fault : FileFault) : Type 0 where
  pub before : List (List ℕ)
  pub file : List ℕ
  pub after : List (List ℕ)
  pub files_are : files ≡ before ++ file ∷ after
  pub place_is : place ≡ length before
  pub objects : List KeyObject
  pub are_keys : AllZip IsKeyFile before objects
  pub bad : IsFileFault file fault

-- a name is given without exactly one file
pub record IsNotOne (files : List (List ℕ)) (name : Option (List ℕ)) : Type 0 where
  pub named : IsSome name
  pub not_one : length files ≢ 1

-- a fault that the command may have, and what it says
abbrev pub IsKeyOutputFault : List (List ℕ) → Option (List ℕ) → KeyFault → Type 0
IsKeyOutputFault files name (Run fault) = IsOutputFault fault
IsKeyOutputFault files name UnknownId = ⊥
IsKeyOutputFault files name NoPublicKey = ⊥
IsKeyOutputFault files name (BadSignature flaw) = ⊥
IsKeyOutputFault files name NotOneFile = IsNotOne files name
IsKeyOutputFault files name (BadFile place fault) = IsFirstBadFile files place fault
