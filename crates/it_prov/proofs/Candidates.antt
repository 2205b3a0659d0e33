-- The envelopes with a subject that agrees with the digests of a file, among all.
use Rattle.std.proofs.Common.{◌≡◌, ◌<◌, ◌≤◌, ◌+◌, ◌*◌, ℕ, zero, suc, List, [], ◌∷◌}
use Rattle.std.proofs.Common.{Bool, true, Option, Some, None, IfSome}
use Rattle.std.proofs.Common.{Contains, length, take, get_or, refl, sym, ap, subst, ◌∙◌}
use Rattle.std.proofs.Common.{arith, drop, le_trans, mul-le-mul_left}
use Rattle.std.specs.List.{slice_get, sum_by}
use Rattle.std.specs.Option.{option_map_or}
use Rattle.std.proofs.lemmas.Option.{get_or_from_slice_get, slice_get-get_or}
use Rattle.std.proofs.lemmas.Option.{same_Some, slice_get_read}
use Rattle.std.proofs.lemmas.List.Elements.{Contains-get_or}
use Rattle.it_digest.specs.declared.compare.DigestSet.{DigestSet}
use Rattle.it_dsse.specs.Panel.{Panel}
use Rattle.it_dsse.specs.declared.envelope.Envelope.{Envelope}
use Rattle.it_docs.specs.declared.policy.Expectation.{Expectation}
use Rattle.it_docs.specs.declared.statement.Statement.{Statement}
use Rattle.it_docs.proofs.Same.{statement_same}
use Rattle.it_prov.specs.Best.{MeetsAtLevel}
use Rattle.it_prov.specs.Held.{AreHeld, HoldsOrNone}
use Rattle.it_prov.specs.Index.{names}
use Rattle.it_prov.specs.inside.Indexed.{TellsAgreement, places_where}
use Rattle.it_prov.specs.declared.attestations.Attestation.{Attestation}
use Rattle.it_prov.proofs.Holding.{zip_stands}
use Rattle.it_prov.proofs.Saying.{held_of}
use Rattle.it_prov.proofs.Asking.{Leaves, leaves_each}
use Rattle.it_prov.proofs.Greatest.{SoFar, greatest_alike, none_enough, so_far_all}
use Rattle.it_prov.proofs.Meeting.{level_of}
use Rattle.it_prov.proofs.Places.{where_at, where_before, where_has, where_sum}
use Rattle.it_prov.proofs.Searching.{read_at, stands_in}
use Rattle.it_prov.proofs.Subjects.{named_has, some_agree}
use Rattle.it_prov.specs.Finding.{NoneMeets}
use Rattle.it_prov.specs.Meets.{Meets}
use Rattle.it_prov.specs.Cost.{key_count, signature_count}
use Rattle.it_dsse.specs.Meter.{RaisedBy}
use Rattle.it_dsse.specs.declared.meter.Meter.{Meter}
use Rattle.it_prov.specs.Best.{IsBest, IsGreatest}
use Rattle.it_prov.specs.inside.Judged.{HasSubject, OfSome}

take_stands : (p : ℕ) (es : List Envelope) (q : ℕ) (e : Envelope)
    → slice_get (take p es) q ≡ Some e → (slice_get es q ≡ Some e) × (q < p)
take_stands zero es q e h = cc
take_stands (suc p) [] q e h = cc
take_stands (suc p) (x ∷ es) zero e h = (h, omega arith)
take_stands (suc p) (x ∷ es) (suc q) e h = let rest = take_stands p es q e h in
    (rest.0, let less = rest.1 in omega (arith, less))

-- the envelope at a place meets an expectation in all but the level, with a level
pub record Reaches (panel : Panel) (expectation : Expectation) (digests : DigestSet)
    (envelopes : List Envelope) (place : ℕ) (n : ℕ) : Type 0 where
  pub envelope : Envelope
  pub stands : slice_get envelopes place ≡ Some envelope
  pub meets : MeetsAtLevel panel expectation digests envelope n

module _ (panel : Panel) (expectations : List Expectation) (expectation : Expectation)
    (is_expectation : Contains expectations expectation) (digests : DigestSet)
    (test : DigestSet → Bool) (tells : TellsAgreement digests test)
    (envelopes : List Envelope) (held : List (Option Attestation))
    (are : AreHeld panel expectations envelopes held) where
  abbrev MeetsAt : Envelope → ℕ → Type 0
  MeetsAt = MeetsAtLevel panel expectation digests

  abbrev ReachesAt : ℕ → ℕ → Type 0
  ReachesAt = Reaches panel expectation digests envelopes

  -- an envelope that meets the expectation in all but the level holds such a subject
  names_it : (e : Envelope) (h : Option Attestation) → HoldsOrNone panel expectations e h → (n : ℕ)
      → MeetsAt e n → names test h ≡ true
  names_it e None none n m = absurd (none m.besides_level.attests.statement
      (held_of panel expectations expectation is_expectation digests e n m))
  names_it e (Some a) attested n m =
      let at = m.besides_level.attests in
      some_agree digests test tells a.statement.subjects at.subject
      (subst (λ (s : Statement). Contains s.subjects at.subject)
      (statement_same e.payload at.statement a.statement at.reads attested.held.reads)
      at.is_subject) at.digests_agree

  -- what is held at the place of an envelope that meets it
  held_at : (q : ℕ) (e : Envelope) (n : ℕ) → slice_get envelopes q ≡ Some e → MeetsAt e n
      → (h : Option Attestation) × (slice_get held q ≡ Some h) × (names test h ≡ true)
  held_at q e n stands m =
      let beside = zip_stands (HoldsOrNone panel expectations) envelopes held q e are stands in
      (beside.0, beside.1, names_it e beside.0 beside.2 n m)

  -- its place is one of those listed
  listed : (q : ℕ) (e : Envelope) (n : ℕ) → slice_get envelopes q ≡ Some e → MeetsAt e n
      → Contains (places_where (names test) 0 held) q
  listed q e n stands m =
      let at = held_at q e n stands m in
      let same : 0 + q ≡ q = omega arith in
      subst (Contains (places_where (names test) 0 held)) same
      (where_has (names test) 0 held q at.0 at.1 at.2)

  place_in : (es : List Envelope) (e : Envelope) (c : Contains es e) → slice_get es c.0 ≡ Some e
  place_in es e c = slice_get_read es (length es) c.0 e refl c.1 (sym c.2)

  met_in : (e : Envelope) (m : Meets panel expectation digests e)
      → MeetsAt e m.builder.level
  met_in = level_of panel expectation digests

  -- what a place before one of those listed has is looked at before it
  module _ (j : ℕ) (best : Option ℕ)
      (so_far : SoFar expectation.level ReachesAt
      (take j (places_where (names test) 0 held)) best) where
    -- no envelope before the place that comes next is enough
    pub none_earlier : (p : ℕ) → slice_get (places_where (names test) 0 held) j ≡ Some p
        → NoneMeets panel expectation digests (take p envelopes)
    none_earlier p at = λ e c m.
        let places = places_where (names test) 0 held in
        let q = c.0 in
        let there = take_stands p envelopes q e (place_in (take p envelopes) e c) in
        let met = met_in e m in
        let h = held_at q e m.builder.level there.0 met in
        let less = there.1 in
        let same : 0 + q ≡ q = omega arith in
        none_enough expectation.level ReachesAt (take j places) best so_far q
        (subst (Contains (take j places)) same
        (where_before (names test) 0 held p h.0 h.2 j q at h.1 (omega (arith, less))))
        m.builder.level (record { envelope = e; stands = there.0; meets = met }) m.level_is_enough

    module _ (past : length (places_where (names test) 0 held) ≤ j) where
      all_looked_at : SoFar expectation.level ReachesAt (places_where (names test) 0 held)
          best
      all_looked_at = so_far_all expectation.level ReachesAt
          (places_where (names test) 0 held) j best past so_far

      -- nor is any, where none comes next
      pub none_at_all : NoneMeets panel expectation digests envelopes
      none_at_all = λ e c m.
          let stands = place_in envelopes e c in
          let met = met_in e m in
          none_enough expectation.level ReachesAt (places_where (names test) 0 held) best
          all_looked_at c.0 (listed c.0 e m.builder.level stands met) m.builder.level
          (record { envelope = e; stands = stands; meets = met }) m.level_is_enough

      pub best_of_all : IsBest panel expectation digests (Contains envelopes) best
      best_of_all = greatest_alike
          (OfSome ReachesAt (places_where (names test) 0 held))
          (λ n. (e : Envelope) × Contains envelopes e × MeetsAt e n)
          (λ n h. let r = h.2 in (r.envelope, stands_in envelopes h.0 r.envelope r.stands, r.meets))
          (λ n h. let stands = place_in envelopes h.0 h.1 in (
            h.1.0,
            listed h.1.0 h.0 n stands h.2,
            record { envelope = h.0; stands = stands; meets = h.2 },
          ))
          best all_looked_at.greatest

-- ---- what the envelopes at some places ask for
abbrev pub signatures_at : List Envelope → ℕ → ℕ
signatures_at envelopes place =
    option_map_or (λ e. length e.signatures) (slice_get envelopes place) 0

pub signatures_of : (envelopes : List Envelope) (place : ℕ) (envelope : Envelope)
    → slice_get envelopes place ≡ Some envelope
    → signatures_at envelopes place ≡ length envelope.signatures
signatures_of envelopes place envelope stands =
    ap (λ o. option_map_or (λ (e : Envelope). length e.signatures) o 0) stands

-- they have at most the signatures of all
pub raised_in_all : (envelopes : List Envelope) (held : List (Option Attestation))
    (test : DigestSet → Bool) (k : ℕ) (start new : Meter) → length held ≡ length envelopes
    → RaisedBy (λ n. n
    ≤ k * sum_by (signatures_at envelopes) (places_where (names test) 0 held)) start new
    → RaisedBy (λ n. n ≤ k * signature_count envelopes) start new
raised_in_all envelopes held test k start new as_many h =
    let some = sum_by (signatures_at envelopes) (places_where (names test) 0 held) in
    let less : some ≤ signature_count envelopes =
    where_sum (names test) (λ (e : Envelope). length e.signatures)
    (signatures_at envelopes) 0 held envelopes as_many
    (λ i e stands. let same : 0 + i ≡ i = omega arith in
    ap (signatures_at envelopes) same ∙ signatures_of envelopes i e stands) in
    (h.0, le_trans h.1 (mul-le-mul_left k less), h.2)

-- what is held at a place of those listed has such a subject
pub listed_has : (digests : DigestSet) (test : DigestSet → Bool) → TellsAgreement digests test
    → (held : List (Option Attestation)) (places : List ℕ) (j : ℕ)
    → places ≡ places_where (names test) 0 held → j < length places
    → (h : Option Attestation) → h ≡ get_or held (get_or places j 0) h
    → IfSome h (HasSubject digests)
listed_has digests test tells held places j are below h here =
    let p = get_or places j 0 in
    let at = where_at (names test) 0 held p
    (subst (λ ps. Contains ps p) are (Contains-get_or places j 0 below)) in
    let same : at.0 ≡ p = let is = at.2 in omega (arith, is) in
    named_has digests test tells h (ap (names test)
    (read_at held p at.1 h here (subst (λ i. slice_get held i ≡ Some at.1) same at.3)) ∙ at.4)

-- the greatest level of the envelope at a place is that of the place
pub reaches_greatest : (panel : Panel) (expectation : Expectation) (digests : DigestSet)
    (envelopes : List Envelope) (place : ℕ) (e : Envelope) → slice_get envelopes place ≡ Some e
    → (best : Option ℕ) → IsGreatest (MeetsAtLevel panel expectation digests e) best
    → IsGreatest (Reaches panel expectation digests envelopes place) best
reaches_greatest panel expectation digests envelopes place e stands best =
    greatest_alike (MeetsAtLevel panel expectation digests e)
    (Reaches panel expectation digests envelopes place)
    (λ n m. record { envelope = e; stands = stands; meets = m })
    (λ n r. subst (λ (d : Envelope). MeetsAtLevel panel expectation digests d n)
    (same_Some r.envelope e (sym r.stands ∙ stands)) r.meets) best

pub read_there : (places : List ℕ) (j : ℕ) → j < length places
    → get_or places j 0 ≡ get_or places j (get_or places j 0)
read_there places j below = sym (get_or_from_slice_get places j (get_or places j 0)
    (get_or places j 0) (slice_get-get_or places j 0 below))

pub leaves_candidate : (start now new : Meter) (k : ℕ) (envelopes : List Envelope)
    (places : List ℕ) (j : ℕ) (e : Envelope) → j < length places
    → slice_get envelopes (get_or places j 0) ≡ Some e
    → Leaves (k * sum_by (signatures_at envelopes) (drop j places))
    (k * sum_by (signatures_at envelopes) places) start now
    → RaisedBy (λ n. n ≤ k * length e.signatures) now new
    → Leaves (k * sum_by (signatures_at envelopes) (drop (j + 1) places))
    (k * sum_by (signatures_at envelopes) places) start new
leaves_candidate start now new k envelopes places j e below stands left cost =
    leaves_each start now new j (signatures_at envelopes) k
    (k * sum_by (signatures_at envelopes) places) places (get_or places j 0) below
    (read_there places j below) left
    (subst (λ s. RaisedBy (λ n. n ≤ k * s) now new)
    (sym (signatures_of envelopes (get_or places j 0) e stands)) cost)

-- the first places were looked at: the greatest level with which an envelope at one of them meets
-- the expectation in all else is too low, and the rest leave each of their signatures to be tried
-- once for each key
pub record Looked (panel : Panel) (expectation : Expectation) (digests : DigestSet)
    (envelopes : List Envelope) (places : List ℕ) (j : ℕ) (best : Option ℕ) (old new : Meter)
    : Type 0 where
  pub so_far : SoFar expectation.level (Reaches panel expectation digests envelopes) (take j places)
      best
  pub asked : Leaves (key_count expectation.builders * sum_by (signatures_at envelopes)
      (drop j places)) (key_count expectation.builders * sum_by (signatures_at envelopes) places)
      old new
