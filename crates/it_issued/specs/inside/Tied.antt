-- What timestamps have to do with logs, step by step. Nothing here is trusted.
use Rattle.std.specs.Prelude.{ℕ, Option, Some, None, List, Any}
use Rattle.it_certificate_log.specs.SignedText.{signed_text}
use Rattle.it_certificate_log.specs.Timestamp.{Stamp}
use Rattle.it_issued.specs.LogMisses.{HasId, IsInWindow, IsStampOf}
use Rattle.it_issued.specs.Logged.{IsByLog}
use Rattle.it_issued.specs.declared.logged.Tie.{Tie}
use Rattle.it_issued.specs.declared.logged.Tie.TheVariants as ties
use Rattle.it_issued.specs.declared.shortfall.LogShortfall.{LogShortfall}
use Rattle.it_issued.specs.declared.shortfall.LogShortfall.TheVariants as shortfalls
use Rattle.it_log.specs.declared.log.Log.{Log}
use Rattle.it_trust_root.specs.declared.root_log.RootLog.{RootLog}

-- a timestamp has this to do with a log, of which it would sign this text
abbrev pub Tied : Tie → List ℕ → Stamp → Log → Type 0
Tied ties.Id text = HasId
Tied ties.Window text = IsInWindow
Tied ties.Signature text = IsByLog text

-- an item is a timestamp that has this to do with one of the logs
abbrev pub IsTiedItem : List RootLog → List ℕ → List ℕ → Tie → List ℕ → Type 0
IsTiedItem logs issuer_key bare tie =
    IsStampOf logs (λ stamp. Tied tie (signed_text issuer_key bare stamp) stamp)

-- one of the items is
abbrev pub HaveTied : List RootLog → List ℕ → List ℕ → List (List ℕ) → Tie → Type 0
HaveTied logs issuer_key bare items tie = Any (IsTiedItem logs issuer_key bare tie) items

-- one of the items is a promise, or they miss this condition
abbrev pub AreShort : List RootLog → List ℕ → List ℕ → List (List ℕ) → Option LogShortfall → Type 0
AreShort logs issuer_key bare items None = HaveTied logs issuer_key bare items ties.Signature
AreShort logs issuer_key bare items (Some shortfalls.Missing) = ⊥
AreShort logs issuer_key bare items (Some shortfalls.Form) = ⊥
AreShort logs issuer_key bare items (Some shortfalls.Log) =
    ¬ HaveTied logs issuer_key bare items ties.Id
AreShort logs issuer_key bare items (Some shortfalls.Window) =
    HaveTied logs issuer_key bare items ties.Id
    × (¬ HaveTied logs issuer_key bare items ties.Window)
AreShort logs issuer_key bare items (Some shortfalls.Signature) =
    HaveTied logs issuer_key bare items ties.Id
    × HaveTied logs issuer_key bare items ties.Window
    × (¬ HaveTied logs issuer_key bare items ties.Signature)
