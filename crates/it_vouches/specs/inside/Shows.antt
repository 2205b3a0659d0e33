-- How far a leaf comes by entries, step by step. Nothing here is trusted.
use Rattle.std.specs.Prelude.{◌≡◌, ℕ, ◌+◌, ◌≤◌, Bool, List, All, Any}
use Rattle.it_bundle.specs.declared.bundle.SigstoreBundle.{SigstoreBundle}
use Rattle.it_bundle.specs.declared.listed_entry.ListedEntry.{ListedEntry}
use Rattle.it_bundle.specs.declared.listed_entry.ListedEntry.TheVariants.{Entry, Unreadable}
use Rattle.it_certificate.specs.Certificate.{Facts}
use Rattle.it_log_entry.specs.Place.{place_of}
use Rattle.it_log_entry.specs.declared.entry.LogEntry.{LogEntry}
use Rattle.it_log_entry.specs.declared.logged.Logged.{Logged}
use Rattle.it_log_entry.specs.declared.shortfall.EntryShortfall.{EntryShortfall}
use Rattle.it_trust_root.specs.declared.root.TrustedRoot.{TrustedRoot}
use Rattle.it_trust_root.specs.declared.root_log.RootLog.{RootLog}
use Rattle.it_vouches.specs.Claim.{Brought}
use Rattle.it_vouches.specs.EntryMissed.{IsMissedByEntry, MissesWithOne}
use Rattle.it_vouches.specs.Furthest.{IsFurthest, IsMissedByOne}
use Rattle.it_vouches.specs.IssuerMissed.{IsMissedByLeaf, issuer_place}
use Rattle.it_vouches.specs.Logged.{VouchesBy}
use Rattle.it_vouches.specs.Misses.{HasIssuer, HasLog, HasNoEntry, IsMissedByIssuer}
use Rattle.it_vouches.specs.Vouches.{IsAttested}
use Rattle.it_vouches.specs.declared.attestation.Attestation.{Attestation}
use Rattle.it_vouches.specs.declared.attestation.Attestation.TheVariants as attestations
use Rattle.it_vouches.specs.declared.issuer_shortfall.IssuerShortfall.{IssuerShortfall}

-- how far the leaf comes
abbrev pub attestation_place : Attestation → ℕ
attestation_place attestations.NoEntry = 0
attestation_place (attestations.NoLog missed) = 1 + place_of missed
attestation_place (attestations.NoIssuer missed) = 15 + issuer_place missed
attestation_place (attestations.Attested time) = 25

-- none of these logs vouches by an entry, and this is the furthest condition that it misses
pub record LacksLog (logs : List RootLog) (needs : Bool) (logged : Logged) (entry : LogEntry)
    (missed : EntryShortfall) : Type 0 where
  pub no_log : ¬ Any (VouchesBy needs entry logged) logs
  pub furthest : IsFurthest place_of (MissesWithOne logs needs entry logged) missed

-- a leaf is not attested at a moment, and this is the furthest condition that it misses
pub record LacksIssuer (root : TrustedRoot) (leaf : Facts) (moment : ℕ)
    (missed : IssuerShortfall) : Type 0 where
  pub no_issuer : ¬ IsAttested root leaf moment
  pub furthest : IsFurthest issuer_place (IsMissedByLeaf root leaf moment) missed

-- how far it comes by one entry
abbrev pub EntryShows : TrustedRoot → Bool → Logged → Facts → LogEntry → Attestation → Type 0
EntryShows root needs logged leaf entry attestations.NoEntry = ⊥
EntryShows root needs logged leaf entry (attestations.NoLog missed) =
    LacksLog root.logs needs logged entry missed
EntryShows root needs logged leaf entry (attestations.NoIssuer missed) =
    Any (VouchesBy needs entry logged) root.logs × LacksIssuer root leaf entry.time missed
EntryShows root needs logged leaf entry (attestations.Attested time) =
    Any (VouchesBy needs entry logged) root.logs × IsAttested root leaf entry.time
    × (entry.time ≡ time)

-- by an element of a list of entries
abbrev pub ListedShows : TrustedRoot → Bool → Logged → Facts → ListedEntry → Attestation → Type 0
ListedShows root needs logged leaf (Entry entry) found =
    EntryShows root needs logged leaf entry found
ListedShows root needs logged leaf Unreadable found = found ≡ attestations.NoEntry

-- an element comes as far, and no further
pub record ComesUpTo {X : Type 0} (Shows : X → Attestation → Type 0) (found : Attestation) (x : X)
    : Type 0 where
  pub shown : Attestation
  pub is : Shows x shown
  pub up_to : attestation_place shown ≤ attestation_place found

-- it comes as far by one of the elements, and no further by any
pub record ComesFurthest {X : Type 0} (Shows : X → Attestation → Type 0) (xs : List X)
    (found : Attestation) : Type 0 where
  pub shown : IsMissedByOne attestations.NoEntry Shows xs found
  pub each : All (ComesUpTo Shows found) xs

-- by all of them: where it is attested by one, the others make no difference
abbrev pub AllShow : {X : Type 0} → (X → Attestation → Type 0) → List X → Attestation → Type 0
AllShow Shows xs (attestations.Attested time) = Any (λ x. Shows x (attestations.Attested time)) xs
AllShow Shows xs found = ComesFurthest Shows xs found

-- by an entry of this time it is attested
pub record HasIssuerAt (root : TrustedRoot) (bundle : SigstoreBundle) (brought : Brought)
    (leaf : Facts) (time : ℕ) : Type 0 where
  pub has_issuer : HasIssuer root bundle brought leaf
  pub time_is : has_issuer.entry.time ≡ time

-- by what a bundle brings
abbrev pub ClaimShows : TrustedRoot → SigstoreBundle → Brought → Facts → Attestation → Type 0
ClaimShows root bundle brought leaf attestations.NoEntry = HasNoEntry brought
ClaimShows root bundle brought leaf (attestations.NoLog missed) =
    (¬ HasLog root bundle brought)
    × IsFurthest place_of (IsMissedByEntry root bundle brought) missed
ClaimShows root bundle brought leaf (attestations.NoIssuer missed) =
    HasLog root bundle brought × (¬ HasIssuer root bundle brought leaf)
    × IsFurthest issuer_place (IsMissedByIssuer root bundle brought leaf) missed
ClaimShows root bundle brought leaf (attestations.Attested time) =
    HasIssuerAt root bundle brought leaf time
