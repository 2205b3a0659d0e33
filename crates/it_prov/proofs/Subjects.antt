-- The subjects that agree with the digests of a file are among those that have one of them.
use Rattle.std.proofs.Common.{◌≡◌, ◌==◌, ◌&&◌, ◌||◌, ℕ, List, [], Bool, true, false}
use Rattle.std.proofs.Common.{Option, Some, None, IfSome, Contains, IsSorted, eqb, nat_cmp, inl, inr}
use Rattle.std.proofs.Common.{refl, sym, ap, subst, bytes_eq, ◌∙◌, arith, ◌<◌, ◌+◌, ◌∷◌, ◌++◌}
use Rattle.std.proofs.Common.{get_or, length, take}
use Rattle.std.proofs.Math.Bool.{and-true}
use Rattle.std.specs.Cmp.Derive.{both_true}
use Rattle.std.specs.List.{dedup, list_any, slice_get}
use Rattle.std.specs.List.Sorted.{IsPermutation}
use Rattle.std.specs.Option.{option_map_or}
use Rattle.std.proofs.lemmas.Bool.{or_cases, or_left, or_right}
use Rattle.std.proofs.lemmas.List.Folds.{Any-from_list_any, list_any-from_Any, list_any_more}
use Rattle.std.proofs.lemmas.Option.{slice_get_cases}
use Rattle.std.proofs.lemmas.Slice.Eq.{bytes_eq-Decides}
use Rattle.it_base.proofs.Settled.{settled_by}
use Rattle.it_digest.specs.Compare.{Agree}
use Rattle.it_digest.specs.DigestSet.{Algorithm, in_sha256, in_sha384, in_sha512, no_digests}
use Rattle.it_digest.specs.DigestSet.{value_in}
use Rattle.it_digest.specs.declared.compare.DigestSet.{DigestSet}
use Rattle.it_prov.specs.declared.attestations.Attestation.{Attestation}
use Rattle.it_prov.specs.declared.index.Entry.{Entry}
use Rattle.it_prov.specs.declared.index.Index.{Index}
use Rattle.it_prov.specs.Index.{IsIndex, entries_by, has_digest, is_of, lists, names}
use Rattle.it_prov.specs.inside.Indexed.{TellsAgreement, places_where}
use Rattle.it_prov.specs.inside.Judged.{HasSubject}
use Rattle.it_prov.proofs.Ascending.{in_is, is_in, sorted_same}
use Rattle.it_prov.proofs.Indexing.{any_pushed, none_more}
use Rattle.it_prov.proofs.Places.{where_ascends, where_at, where_has}

-- ---- tests of what an envelope holds
and_second : (a b : Bool) → (a && b) ≡ true → b ≡ true
and_second true b h = h
and_second false b h = cc

abbrev pub no_entry : Entry
no_entry = record { place = 0; subject = no_digests }

false_else : (b : Bool) → ¬ (b ≡ true) → b ≡ false
false_else true not = absurd (not refl)
false_else false not = refl

or_later : (a b c : Bool) → ((a || b) || c) ≡ (a || (b || c))
or_later true b c = refl
or_later false b c = refl

names_more : (P Q : DigestSet → Bool) → ((s : DigestSet) → P s ≡ true → Q s ≡ true)
    → (held : Option (Option Attestation)) → option_map_or (names P) held false ≡ true
    → option_map_or (names Q) held false ≡ true
names_more P Q each None h = cc
names_more P Q each (Some None) h = cc
names_more P Q each (Some (Some a)) h =
    let s = Any-from_list_any P a.statement.subjects h in
    list_any-from_Any Q a.statement.subjects (s.0, s.1, s.2, s.3, each s.1 s.4)

-- the place of an envelope that passes is one of those listed
module _ {X : Type 0} (test : X → Bool) (xs : List X) (p : ℕ) where
  pub passes_where : option_map_or test (slice_get xs p) false ≡ true
      → Contains (places_where test 0 xs) p
  passes_where h = elim (slice_get_cases xs p).1 [
    | inl at ↦
        let same : 0 + p ≡ p = omega arith in
        subst (Contains (places_where test 0 xs)) same
        (where_has test 0 xs p at.0 at.2 (ap (λ o. option_map_or test o false) (sym at.2) ∙ h))
    | inr past ↦ cc (ap (λ o. option_map_or test o false) past.1, h)
  ]

  pub where_passes : Contains (places_where test 0 xs) p
      → option_map_or test (slice_get xs p) false ≡ true
  where_passes c =
      let at = where_at test 0 xs p c in
      let same : at.0 ≡ p = let is = at.2 in omega (arith, is) in
      ap (λ o. option_map_or test o false) (subst (λ i. slice_get xs i ≡ Some at.1) same at.3)
      ∙ at.4

module _ (digests : DigestSet) (test : DigestSet → Bool) (tells : TellsAgreement digests test) where
  -- ---- subjects that agree
  pub some_agree : (subjects : List DigestSet) (subject : DigestSet) → Contains subjects subject
      → Agree subject digests → list_any test subjects ≡ true
  some_agree subjects subject c h =
      list_any-from_Any test subjects (c.0, subject, c.1, c.2, (tells subject).1 h)

  pub named_has : (held : Option Attestation) → names test held ≡ true
      → IfSome held (HasSubject digests)
  named_has None h = tt
  named_has (Some a) h = let s = Any-from_list_any test a.statement.subjects h in
      (s.0, s.1, s.2, s.3, (tells s.1).0 s.4)

  same_value : (subject : DigestSet) → (agree : Agree subject digests) → agree.in_b ≡ agree.in_a
  same_value subject agree =
      elim (settled_by (bytes_eq agree.in_a agree.in_b) (bytes_eq-Decides agree.in_a agree.in_b)) [
        | inl same ↦ sym same
        | inr other ↦ absurd (agree.no_difference (record {
          algorithm = agree.algorithm;
          in_a = agree.in_a;
          in_b = agree.in_b;
          in_both = agree.in_both;
          unequal = other;
        }))
      ]

  -- a subject that agrees has one of the digests
  shares : (subject : DigestSet) → test subject ≡ true → (algorithm : Algorithm)
      × (digest : List ℕ) × (value_in algorithm digests ≡ Some digest)
      × (has_digest algorithm digest subject ≡ true)
  shares subject h =
      let agree = (tells subject).0 h in (
        agree.algorithm,
        agree.in_b,
        agree.in_both.second,
        ap (λ o. option_map_or (bytes_eq agree.in_b) o false) agree.in_both.first
            ∙ (bytes_eq-Decides agree.in_b agree.in_a).1 (same_value subject agree),
      )

  -- ---- entries that are looked at one after another
  pub one_pushed : (entry : Entry) → Agree entry.subject digests → (now : List ℕ) (place : ℕ)
      → list_any (λ p. p == place) (now ++ entry.place ∷ [])
      ≡ (list_any (λ p. p == place) now || is_of test place entry)
  one_pushed entry agree now place = any_pushed (λ p. p == place) now entry.place
      ∙ ap (λ b. list_any (λ p. p == place) now || b)
      (sym (ap (λ t. (entry.place == place) && t) ((tells entry.subject).1 agree)
      ∙ and-true (entry.place == place)))

  pub one_skipped : (entry : Entry) → ¬ Agree entry.subject digests → (now : List ℕ) (place : ℕ)
      → list_any (λ p. p == place) now
      ≡ (list_any (λ p. p == place) now || is_of test place entry)
  one_skipped entry apart now place =
      none_more (list_any (λ p. p == place) now) (entry.place == place)
      ∙ ap (λ t. list_any (λ p. p == place) now || ((entry.place == place) && t))
      (sym (false_else (test entry.subject) (λ e. apart ((tells entry.subject).0 e))))

  pub more_found : (old now new : List ℕ) (entries : List Entry) (i : ℕ) → i < length entries
      → (place : ℕ) → list_any (λ p. p == place) now
      ≡ (list_any (λ p. p == place) old || list_any (is_of test place) (take i entries))
      → list_any (λ p. p == place) new
      ≡ (list_any (λ p. p == place) now || is_of test place (get_or entries i no_entry))
      → list_any (λ p. p == place) new
      ≡ (list_any (λ p. p == place) old || list_any (is_of test place) (take (i + 1) entries))
  more_found old now new entries i below place before step =
      step ∙ ap (λ b. b || is_of test place (get_or entries i no_entry)) before
      ∙ or_later (list_any (λ p. p == place) old) (list_any (is_of test place) (take i entries))
      (is_of test place (get_or entries i no_entry))
      ∙ ap (λ b. list_any (λ p. p == place) old || b)
      (sym (list_any_more (is_of test place) entries i no_entry below))

  -- ---- what is found under the digests
  -- whether what an envelope holds is found under a digest of an algorithm, if there is one
  abbrev under : Algorithm → Option (Option Attestation) → Option (List ℕ) → Bool
  under algorithm held value = option_map_or
      (λ d. option_map_or (names (λ s. has_digest algorithm d s && test s)) held false) value false

  under_agrees : (algorithm : Algorithm) (held : Option (Option Attestation))
      (value : Option (List ℕ)) → under algorithm held value ≡ true
      → option_map_or (names test) held false ≡ true
  under_agrees algorithm held None h = cc
  under_agrees algorithm held (Some d) h =
      names_more (λ s. has_digest algorithm d s && test s) test
      (λ s. and_second (has_digest algorithm d s) (test s)) held h

  found_under : (held : Option (Option Attestation)) → option_map_or (names test) held false ≡ true
      → (algorithm : Algorithm) × (under algorithm held (value_in algorithm digests) ≡ true)
  found_under None h = cc
  found_under (Some None) h = cc
  found_under (Some (Some a)) h =
      let s = Any-from_list_any test a.statement.subjects h in
      let share = shares s.1 s.4 in (
        share.0,
        ap (under share.0 (Some (Some a))) share.2
            ∙ list_any-from_Any (λ subject. has_digest share.0 share.1 subject && test subject)
            a.statement.subjects (s.0, s.1, s.2, s.3, both_true share.3 s.4),
      )

  abbrev in_some : Option (Option Attestation) → Bool
  in_some held = (under in_sha256 held digests.sha256 || under in_sha384 held digests.sha384)
      || under in_sha512 held digests.sha512

  some_of : (held : Option (Option Attestation)) (algorithm : Algorithm)
      → under algorithm held (value_in algorithm digests) ≡ true → in_some held ≡ true
  some_of held in_sha256 h = or_left _ _ (or_left _ _ h)
  some_of held in_sha384 h = or_left _ _ (or_right _ _ h)
  some_of held in_sha512 h = or_right _ _ h

  some_agrees : (held : Option (Option Attestation)) → in_some held ≡ true
      → option_map_or (names test) held false ≡ true
  some_agrees held h = elim (or_cases _ (under in_sha512 held digests.sha512) h) [
    | inl first ↦ elim (or_cases (under in_sha256 held digests.sha256) _ first) [
      | inl e ↦ under_agrees in_sha256 held digests.sha256 e
      | inr e ↦ under_agrees in_sha384 held digests.sha384 e
    ]
    | inr e ↦ under_agrees in_sha512 held digests.sha512 e
  ]

  module _ (index : Index) (held : List (Option Attestation)) (indexed : IsIndex held index) where
    listed_under : (algorithm : Algorithm) (p : ℕ) (value : Option (List ℕ))
        → option_map_or (λ d. lists (entries_by algorithm index) d test p) value false
        ≡ under algorithm (slice_get held p) value
    listed_under algorithm p None = refl
    listed_under algorithm p (Some d) = indexed algorithm d test p

    -- the places that are pushed, in order and each once, are those of the envelopes that have
    -- such a subject
    pub are_candidates : (first second pushed sorted : List ℕ)
        → ((p : ℕ) → list_any (λ q. q == p) first ≡ option_map_or
        (λ d. lists index.by_sha256 d test p) digests.sha256 false)
        → ((p : ℕ) → list_any (λ q. q == p) second ≡ (list_any (λ q. q == p) first
        || option_map_or (λ d. lists index.by_sha384 d test p) digests.sha384 false))
        → ((p : ℕ) → list_any (λ q. q == p) pushed ≡ (list_any (λ q. q == p) second
        || option_map_or (λ d. lists index.by_sha512 d test p) digests.sha512 false))
        → IsPermutation pushed sorted → IsSorted nat_cmp sorted
        → dedup eqb sorted ≡ places_where (names test) 0 held
    are_candidates first second pushed sorted one two three moved ordered =
        let found : (p : ℕ) → list_any (λ q. q == p) pushed ≡ in_some (slice_get held p) =
        λ p. three p ∙ ap (λ b. b || option_map_or (λ d. lists index.by_sha512 d test p)
        digests.sha512 false) (two p ∙ ap (λ b. b || option_map_or
        (λ d. lists index.by_sha384 d test p) digests.sha384 false) (one p))
        ∙ rw (
          listed_under in_sha256 p digests.sha256,
          listed_under in_sha384 p digests.sha384,
          listed_under in_sha512 p digests.sha512,
        ) refl in
        sorted_same pushed sorted (places_where (names test) 0 held) moved ordered
        (where_ascends (names test) 0 held)
        (λ p. (
          λ c. passes_where (names test) held p
              (some_agrees (slice_get held p) (sym (found p) ∙ in_is pushed p c)),
          λ c. let under = found_under (slice_get held p) (where_passes (names test) held p c) in
              is_in pushed p (found p ∙ some_of (slice_get held p) under.0 under.1),
        ))
