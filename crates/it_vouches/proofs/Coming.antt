-- How far a leaf comes by what a bundle brings.
use Rattle.std.proofs.Common.{ℕ, ◌≤◌, Bool, List, All, Any, inl, inr, subst, arith}
use Rattle.std.specs.List.{Contains}
use Rattle.it_bundle.specs.declared.bundle.SigstoreBundle.{SigstoreBundle}
use Rattle.it_bundle.specs.declared.listed_entry.ListedEntry.{ListedEntry}
use Rattle.it_bundle.specs.declared.listed_entry.ListedEntry.TheVariants.{Entry, Unreadable}
use Rattle.it_certificate.specs.Certificate.{Facts}
use Rattle.it_log_entry.specs.Place.{place_of}
use Rattle.it_log_entry.specs.declared.entry.LogEntry.{LogEntry}
use Rattle.it_log_entry.specs.declared.logged.Logged.{Logged}
use Rattle.it_log_entry.specs.declared.shortfall.EntryShortfall.{EntryShortfall}
use Rattle.it_trust_root.specs.declared.root.TrustedRoot.{TrustedRoot}
use Rattle.it_vouches.specs.Claim.{Brought, needs_proof}
use Rattle.it_vouches.specs.EntryMissed.{IsMissedByEntry, MissesWithOne}
use Rattle.it_vouches.specs.Furthest.{IsFurthest}
use Rattle.it_vouches.specs.IssuerMissed.{IsMissedByLeaf, issuer_place}
use Rattle.it_vouches.specs.Logged.{IsAbout, VouchesBy}
use Rattle.it_vouches.specs.Misses.{HasIssuer, HasLog, HasNoEntry, IsByLog, IsMissedByIssuer}
use Rattle.it_vouches.specs.Vouches.{IsAttested}
use Rattle.it_vouches.specs.declared.attestation.Attestation.{Attestation}
use Rattle.it_vouches.specs.declared.attestation.Attestation.TheVariants.{Attested, NoEntry, NoIssuer, NoLog}
use Rattle.it_vouches.specs.declared.issuer_shortfall.IssuerShortfall.{IssuerShortfall}
use Rattle.it_vouches.specs.inside.Shows.{AllShow, ClaimShows, ComesFurthest, ComesUpTo, EntryShows, HasIssuerAt, ListedShows, attestation_place}
use Rattle.it_vouches.proofs.Loops.{contains_of_any}
use Rattle.it_vouches.proofs.Places.{entry_low, issuer_low}
use Rattle.it_vouches.proofs.SameLogged.{by_log_same, missed_same}
use Rattle.it_vouches.proofs.Vouching.{about_same}

-- ---- by one entry
module _ (root : TrustedRoot) (needs : Bool) (logged : Logged) (f : Facts) (e : LogEntry) where
  -- an entry that reads comes further than none
  above_none : (shown : Attestation) → EntryShows root needs logged f e shown → attestation_place shown ≤ 0 → ⊥
  above_none NoEntry is low = is
  above_none (NoLog m) is low = omega (arith, low)
  above_none (NoIssuer m) is low = omega (arith, low)
  above_none (Attested t) is low = omega (arith, low)

  -- where it comes no further than a condition of a log
  not_by_log : (s : EntryShortfall) (shown : Attestation) → EntryShows root needs logged f e shown
      → attestation_place shown ≤ attestation_place (NoLog s) → Any (VouchesBy needs e logged) root.logs → ⊥
  not_by_log s NoEntry is low by = is
  not_by_log s (NoLog m) is low by = is.no_log by
  not_by_log s (NoIssuer m) is low by = let most = entry_low s in omega (arith, low, most)
  not_by_log s (Attested t) is low by = let most = entry_low s in omega (arith, low, most)

  no_further : (s t : EntryShortfall) (shown : Attestation) → EntryShows root needs logged f e shown
      → attestation_place shown ≤ attestation_place (NoLog s) → MissesWithOne root.logs needs e logged t → place_of t ≤ place_of s
  no_further s t NoEntry is low misses = absurd is
  no_further s t (NoLog m) is low misses = let up = is.furthest.furthest t misses in omega (arith, low, up)
  no_further s t (NoIssuer m) is low misses = let most = entry_low s in absurd (omega (arith, low, most))
  no_further s t (Attested at) is low misses = let most = entry_low s in absurd (omega (arith, low, most))

  -- where it comes no further than a condition of an authority
  not_attested : (s : IssuerShortfall) (shown : Attestation) → EntryShows root needs logged f e shown
      → attestation_place shown ≤ attestation_place (NoIssuer s) → Any (VouchesBy needs e logged) root.logs → IsAttested root f e.time → ⊥
  not_attested s NoEntry is low by attested = is
  not_attested s (NoLog m) is low by attested = is.no_log by
  not_attested s (NoIssuer m) is low by attested = is.1.no_issuer attested
  not_attested s (Attested t) is low by attested = let most = issuer_low s in omega (arith, low, most)

  issued_no_further : (s t : IssuerShortfall) (shown : Attestation) → EntryShows root needs logged f e shown
      → attestation_place shown ≤ attestation_place (NoIssuer s) → Any (VouchesBy needs e logged) root.logs
      → IsMissedByLeaf root f e.time t → issuer_place t ≤ issuer_place s
  issued_no_further s t NoEntry is low by misses = absurd is
  issued_no_further s t (NoLog m) is low by misses = absurd (is.no_log by)
  issued_no_further s t (NoIssuer m) is low by misses = let up = is.1.furthest.furthest t misses in omega (arith, low, up)
  issued_no_further s t (Attested at) is low by misses = let most = issuer_low s in absurd (omega (arith, low, most))

-- ---- by all that a bundle brings
each_at : {X : Type 0} (P : X → Type 0) (xs : List X) (x : X) → All P xs → Contains xs x → P x
each_at P xs x all among = subst P among.2 (all among.0 x among.1)

module _ (root : TrustedRoot) (bundle : SigstoreBundle) (b : Brought) (f : Facts) (logged : Logged)
    (about : IsAbout bundle.envelope b.signature b.certificate logged) where
  abbrev Shows : ListedEntry → Attestation → Type 0
  Shows = ListedShows root (needs_proof bundle.version) logged f

  by_log_of : (e : LogEntry) → IsByLog root bundle b e → Any (VouchesBy (needs_proof bundle.version) e logged) root.logs
  by_log_of e by =
      by_log_same (needs_proof bundle.version) e by.logged logged
      (about_same bundle b.signature b.certificate by.logged logged by.about about) root.logs by.by_log

  of_log : (e : LogEntry) → Contains b.entries (Entry e) → Any (VouchesBy (needs_proof bundle.version) e logged) root.logs
      → IsByLog root bundle b e
  of_log e among by = record { logged = logged; is_entry = among; about = about; by_log = by }

  -- no entry reads
  none_reads : ComesFurthest Shows b.entries NoEntry → HasNoEntry b
  none_reads all e among =
      let at = each_at (ComesUpTo Shows NoEntry) b.entries (Entry e) all.each among in
      above_none root (needs_proof bundle.version) logged f e at.shown at.is at.up_to

  module _ (s : EntryShortfall) (all : ComesFurthest Shows b.entries (NoLog s)) where
    no_log : ¬ HasLog root bundle b
    no_log has =
        let at = each_at (ComesUpTo Shows (NoLog s)) b.entries (Entry has.0) all.each has.1.is_entry in
        not_by_log root (needs_proof bundle.version) logged f has.0 s at.shown at.is at.up_to (by_log_of has.0 has.1)

    log_up_to : (t : EntryShortfall) → IsMissedByEntry root bundle b t → place_of t ≤ place_of s
    log_up_to t m =
        let at = each_at (ComesUpTo Shows (NoLog s)) b.entries (Entry m.entry) all.each m.is_entry in
        no_further root (needs_proof bundle.version) logged f m.entry s t at.shown at.is at.up_to
        (missed_same root.logs (needs_proof bundle.version) m.entry m.logged logged
        (about_same bundle b.signature b.certificate m.logged logged m.about about) t m.misses)

    log_missed_by : (x : ListedEntry) → Contains b.entries x → Shows x (NoLog s) → IsMissedByEntry root bundle b s
    log_missed_by (Entry e) among is =
        record { entry = e; logged = logged; is_entry = among; about = about; misses = is.furthest.is_missed }
    log_missed_by Unreadable among is = absurd (cc)

    log_furthest : IsFurthest place_of (IsMissedByEntry root bundle b) s
    log_furthest = record {
      is_missed = elim all.shown [
        | inl e ↦ absurd (cc)
        | inr any ↦ log_missed_by any.1 (contains_of_any (λ x. Shows x (NoLog s)) b.entries any) any.4
      ];
      furthest = log_up_to;
    }

  module _ (s : IssuerShortfall) (all : ComesFurthest Shows b.entries (NoIssuer s)) where
    no_issuer : ¬ HasIssuer root bundle b f
    no_issuer has =
        let at = each_at (ComesUpTo Shows (NoIssuer s)) b.entries (Entry has.entry) all.each has.by_log.is_entry in
        not_attested root (needs_proof bundle.version) logged f has.entry s at.shown at.is at.up_to
        (by_log_of has.entry has.by_log) has.attested

    issuer_up_to : (t : IssuerShortfall) → IsMissedByIssuer root bundle b f t → issuer_place t ≤ issuer_place s
    issuer_up_to t m =
        let at = each_at (ComesUpTo Shows (NoIssuer s)) b.entries (Entry m.entry) all.each m.by_log.is_entry in
        issued_no_further root (needs_proof bundle.version) logged f m.entry s t at.shown at.is at.up_to
        (by_log_of m.entry m.by_log) m.misses

    issuer_missed_by : (x : ListedEntry) → Contains b.entries x → Shows x (NoIssuer s) → IsMissedByIssuer root bundle b f s
    issuer_missed_by (Entry e) among is =
        record { entry = e; by_log = of_log e among is.0; misses = is.1.furthest.is_missed }
    issuer_missed_by Unreadable among is = absurd (cc)

    issuer_missed : IsMissedByIssuer root bundle b f s
    issuer_missed = elim all.shown [
      | inl e ↦ absurd (cc)
      | inr any ↦ issuer_missed_by any.1 (contains_of_any (λ x. Shows x (NoIssuer s)) b.entries any) any.4
    ]

    issuer_furthest : IsFurthest issuer_place (IsMissedByIssuer root bundle b f) s
    issuer_furthest = record { is_missed = issuer_missed; furthest = issuer_up_to }

  -- one is attested
  attested_by : (time : ℕ) (x : ListedEntry) → Contains b.entries x → Shows x (Attested time) → HasIssuerAt root bundle b f time
  attested_by time (Entry e) among is = record {
    has_issuer = record { entry = e; by_log = of_log e among is.0; attested = is.1 };
    time_is = is.2;
  }
  attested_by time Unreadable among is = absurd (cc)

  pub claim_shows : (found : Attestation) → AllShow Shows b.entries found → ClaimShows root bundle b f found
  claim_shows NoEntry all = none_reads all
  claim_shows (NoLog s) all = (no_log s all, log_furthest s all)
  claim_shows (NoIssuer s) all =
      let m = issuer_missed s all in
      ((m.entry, m.by_log), no_issuer s all, issuer_furthest s all)
  claim_shows (Attested time) any =
      attested_by time any.1 (contains_of_any (λ x. Shows x (Attested time)) b.entries any) any.4
