-- Which condition is missed where no certificate log promised to log a leaf (RFC 6962, 3.3).
use Rattle.std.specs.Prelude.{◌≡◌, ℕ, ◌*◌, pos, Option, Some, ⊤, List, Any}
use Rattle.it_numbers.specs.Bytes.{big}
use Rattle.it_certificate.specs.Certificate.{Facts}
use Rattle.it_certificate.specs.Identifiers.{timestamps}
use Rattle.it_certificate.specs.Values.{value_of}
use Rattle.it_certificate_log.specs.Items.{IsItemList}
use Rattle.it_certificate_log.specs.Timestamp.{Stamp, TimestampOf}
use Rattle.it_issued.specs.Logged.{IsLogged}
use Rattle.it_issued.specs.Misses.{IsFirstMissed, IsShortfall}
use Rattle.it_issued.specs.declared.shortfall.LogShortfall.{LogShortfall}
use Rattle.it_issued.specs.declared.shortfall.LogShortfall.TheVariants as shortfalls
use Rattle.it_log.specs.Window.{LiesIn}
use Rattle.it_log.specs.declared.log.Log.{Log}
use Rattle.it_trust_root.specs.declared.root_log.RootLog.{RootLog}
use Rattle.it_trust_root.specs.declared.root_log.RootLog.TheVariants.{Usable, PassedOver}

-- the order of the conditions: how many come before each (this profile's choice)
abbrev pub log_place : LogShortfall → ℕ
log_place shortfalls.Missing = 0
log_place shortfalls.Form = 1
log_place shortfalls.Log = 2
log_place shortfalls.Window = 3
log_place shortfalls.Signature = 4

-- the leaf has timestamps, whose value is so
pub record HasValue (leaf : Facts) (Is : List ℕ → Type 0) : Type 0 where
  pub value : List ℕ
  pub value_is : value_of timestamps leaf.extensions ≡ Some value
  pub is : Is value

-- a value is a list of items, one of which is so
pub record HasItem (Is : List ℕ → Type 0) (value : List ℕ) : Type 0 where
  pub items : List (List ℕ)
  pub items_are : IsItemList value items
  pub some : Any Is items

-- a log of a trusted root is so, and is not passed over
abbrev pub OfUsable : (Log → Type 0) → RootLog → Type 0
OfUsable Is (Usable log) = Is log
OfUsable Is (PassedOver reason) = ⊥

-- an item is a timestamp, which is so tied to one of the logs
pub record IsStampOf (logs : List RootLog) (Tied : Stamp → Log → Type 0) (item : List ℕ)
    : Type 0 where
  pub stamp : Stamp
  pub stamp_is : TimestampOf item stamp
  pub of_log : Any (OfUsable (Tied stamp)) logs

-- a timestamp has the log's id
abbrev pub HasId : Stamp → Log → Type 0
HasId stamp log = stamp.log ≡ log.id

-- and is from a moment, in milliseconds, at which the log was trusted
pub record IsInWindow (stamp : Stamp) (log : Log) : Type 0 where
  pub id_is : HasId stamp log
  pub trusted : LiesIn log.window (pos (1_000_000 * big stamp.moment))

-- where a leaf of this issuer meets the condition, by these certificate logs
abbrev pub MeetsLog : List RootLog → Facts → Facts → LogShortfall → Type 0
MeetsLog logs issuer leaf shortfalls.Missing = HasValue leaf (λ value. ⊤)
MeetsLog logs issuer leaf shortfalls.Form =
    HasValue leaf (λ value. (items : List (List ℕ)) × IsItemList value items)
MeetsLog logs issuer leaf shortfalls.Log = HasValue leaf (HasItem (IsStampOf logs HasId))
MeetsLog logs issuer leaf shortfalls.Window = HasValue leaf (HasItem (IsStampOf logs IsInWindow))
MeetsLog logs issuer leaf shortfalls.Signature = IsLogged logs issuer leaf

-- the leaf misses this condition, and meets those before it
abbrev pub LogMisses : List RootLog → Facts → Facts → LogShortfall → Type 0
LogMisses logs issuer leaf =
    IsFirstMissed LogShortfall log_place (MeetsLog logs issuer leaf)

-- the leaf was logged, or was not, and misses this condition
abbrev pub IsLogShortfall : List RootLog → Facts → Facts → Option LogShortfall → Type 0
IsLogShortfall logs issuer leaf =
    IsShortfall (IsLogged logs issuer leaf) (LogMisses logs issuer leaf)
