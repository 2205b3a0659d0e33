-- Logs (Sigstore's `TransparencyLogInstance`).
use Rattle.std.specs.Prelude.{◌≡◌, ◌≢◌, ℕ, List, length, codes}
use Rattle.serde_json.specs.Data.{Data}
use Rattle.it_base.specs.Base64Text.{IsBase64}
use Rattle.it_base.specs.Parts.{IsPart}
use Rattle.it_base.specs.Text.{IsText}
use Rattle.it_p256.specs.Key.{IsKey, info_of}
use Rattle.it_trust_root.specs.Window.{IsWindow}
use Rattle.it_trust_root.specs.declared.listed_log.ListedKey.{ListedKey}
use Rattle.it_trust_root.specs.declared.listed_log.ListedLog.{ListedLog}
use Rattle.it_log.specs.declared.log.Log.{Log}
use Rattle.it_trust_root.specs.declared.root_log.RootLog.{RootLog}
use Rattle.it_trust_root.specs.declared.root_log.RootLog.TheVariants.{Usable, PassedOver}
use Rattle.it_trust_root.specs.declared.root_log.Unusable.{Unusable}
use Rattle.it_trust_root.specs.declared.root_log.Unusable.TheVariants.{HashAlgorithm, KeyDetails}
use Rattle.it_trust_root.specs.declared.root_log.Unusable.TheVariants.{IdLength}

-- a key in a document (`PublicKey`)
pub record IsListedKey (d : Data) (key : ListedKey) : Type 0 where
  pub details : IsPart IsText (codes "keyDetails") d key.details
  pub bytes : IsPart IsBase64 (codes "rawBytes") d key.bytes
  pub window : IsPart IsWindow (codes "validFor") d key.window

-- a log in a document
pub record IsListedLog (d : Data) (log : ListedLog) : Type 0 where
  pub hash_algorithm : IsPart IsText (codes "hashAlgorithm") d log.hash_algorithm
  pub key : IsPart IsListedKey (codes "publicKey") d log.key
  pub id : IsPart (IsPart IsBase64 (codes "keyId")) (codes "logId") d log.id

abbrev pub usable_algorithm : List ℕ
usable_algorithm = codes "SHA2_256"

abbrev pub usable_details : List ℕ
usable_details = codes "PKIX_ECDSA_P256_SHA_256"

-- the log that a usable one is: with SHA-256, a key of P-256 and an id of 32 bytes
pub record IsUsable (listed : ListedLog) (log : Log) : Type 0 where
  pub hash_algorithm : listed.hash_algorithm ≡ usable_algorithm
  pub details : listed.key.details ≡ usable_details
  pub id_is : log.id ≡ listed.id
  pub id_long : length listed.id ≡ 32
  pub is_key : IsKey log.key
  pub key_is : listed.key.bytes ≡ info_of log.key
  pub window_is : log.window ≡ listed.key.window

-- the first reason why a log is passed over (this profile's choice)
abbrev pub IsUnusable : ListedLog → Unusable → Type 0
IsUnusable listed (HashAlgorithm name) =
    (listed.hash_algorithm ≢ usable_algorithm) × (name ≡ listed.hash_algorithm)
IsUnusable listed (KeyDetails name) = (listed.hash_algorithm ≡ usable_algorithm)
    × (listed.key.details ≢ usable_details) × (name ≡ listed.key.details)
IsUnusable listed (IdLength n) = (listed.hash_algorithm ≡ usable_algorithm)
    × (listed.key.details ≡ usable_details)
    × (length listed.id ≢ 32) × (n ≡ length listed.id)

-- what a listed log is
abbrev pub LogOf : ListedLog → RootLog → Type 0
LogOf listed (Usable log) = IsUsable listed log
LogOf listed (PassedOver reason) = IsUnusable listed reason

-- a log in a document, usable or passed over
pub record IsRootLog (d : Data) (log : RootLog) : Type 0 where
  pub listed : ListedLog
  pub is_listed : IsListedLog d listed
  pub log_is : LogOf listed log
