-- What certificate logs say of a leaf (RFC 6962, section 3.3).
use Rattle.std.specs.Prelude.{◌≡◌, ℕ, ◌*◌, pos, List, Some, Any}
use Rattle.it_numbers.specs.Bytes.{big}
use Rattle.it_p256.specs.Signature.{IsSignature}
use Rattle.it_certificate.specs.Certificate.{Facts}
use Rattle.it_certificate.specs.Identifiers.{timestamps}
use Rattle.it_certificate.specs.Values.{value_of}
use Rattle.it_certificate_log.specs.Bare.{bare_bytes}
use Rattle.it_certificate_log.specs.Items.{IsItemList}
use Rattle.it_certificate_log.specs.SignedText.{signed_text}
use Rattle.it_certificate_log.specs.Timestamp.{Stamp, TimestampOf}
use Rattle.it_issued.specs.Signature.{key_info}
use Rattle.it_log.specs.Window.{LiesIn}
use Rattle.it_log.specs.declared.log.Log.{Log}
use Rattle.it_trust_root.specs.declared.root_log.RootLog.{RootLog}
use Rattle.it_trust_root.specs.declared.root_log.RootLog.TheVariants.{Usable, PassedOver}

-- a timestamp is by this log: it has the log's id, a moment, in milliseconds, at which the log was
-- trusted, and the log's signature of the text
pub record IsByLog (text : List ℕ) (stamp : Stamp) (log : Log) : Type 0 where
  pub id_is : stamp.log ≡ log.id
  pub trusted : LiesIn log.window (pos (1_000_000 * big stamp.moment))
  pub signed : IsSignature log.key text stamp.signature

-- the same for a log of a trusted root, which may be one that is passed over
abbrev pub IsByListed : List ℕ → Stamp → RootLog → Type 0
IsByListed text stamp (Usable log) = IsByLog text stamp log
IsByListed text stamp (PassedOver reason) = ⊥

-- an item is a timestamp, by one of the logs, of the certificate that is these bytes without its
-- timestamps and has an issuer with this key
pub record IsPromise (logs : List RootLog) (issuer_key bare item : List ℕ) : Type 0 where
  pub stamp : Stamp
  pub stamp_is : TimestampOf item stamp
  pub by_log : Any (IsByListed (signed_text issuer_key bare stamp) stamp) logs

-- one of the logs promised to log the leaf: one of its timestamps is theirs
pub record IsLogged (logs : List RootLog) (issuer leaf : Facts) : Type 0 where
  pub value : List ℕ
  pub items : List (List ℕ)
  pub value_is : value_of timestamps leaf.extensions ≡ Some value
  pub items_are : IsItemList value items
  pub promised : Any (IsPromise logs (key_info issuer.curve issuer.coordinates) (bare_bytes leaf))
      items
