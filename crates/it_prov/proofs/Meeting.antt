-- With which levels an envelope meets an expectation.
use Rattle.std.proofs.Common.{◌≤◌, ℕ, List, Option, Some, None, inl, inr, refl, subst, arith}
use Rattle.std.specs.Str.{bytes_eq}
use Rattle.std.proofs.lemmas.Bool.Decides.{leb_tells}
use Rattle.std.proofs.lemmas.Slice.Eq.{bytes_eq-Decides}
use Rattle.it_base.proofs.Settled.{Settled, settled_both, settled_by}
use Rattle.it_digest.specs.declared.compare.DigestSet.{DigestSet}
use Rattle.it_dsse.specs.Panel.{Panel}
use Rattle.it_dsse.specs.declared.envelope.Envelope.{Envelope}
use Rattle.it_docs.specs.declared.policy.Builder.{Builder}
use Rattle.it_docs.specs.declared.policy.Expectation.{Expectation}
use Rattle.it_docs.specs.declared.statement.Provenance.{Provenance}
use Rattle.it_prov.specs.Asked.{IsAskedFor}
use Rattle.it_prov.specs.Best.{IsGreatest, MeetsAtLevel}
use Rattle.it_prov.specs.inside.Judged.{IsAskedOfBuilders, IsBuiltBy, IsExpected, OfSome}
use Rattle.it_prov.specs.Meets.{Attests, Meets, MeetsBesidesLevel}
use Rattle.it_prov.proofs.Attesting.{attests_one, attests_or_not}
use Rattle.it_prov.proofs.Greatest.{greatest_alike, some_greatest}
use Rattle.it_prov.proofs.ParametersSettled.{parameters_meet_or_not}
use Rattle.it_prov.proofs.Signing.{signed_or_not}

-- a builder with an id that signed the envelope has its level alone
pub built_greatest : (panel : Panel) (envelope : Envelope) (id : List ℕ) (builder : Builder)
    → IsBuiltBy panel envelope id builder builder.level
    → IsGreatest (IsBuiltBy panel envelope id builder) (Some builder.level)
built_greatest panel envelope id builder built = (
  built,
  λ n other. let same = other.level_is in
      omega (arith, same),
)

module _ (panel : Panel) (expectation : Expectation) (digests : DigestSet)
    (envelope : Envelope) where
  abbrev BuiltAs : Provenance → Builder → ℕ → Type 0
  BuiltAs p = IsBuiltBy panel envelope p.builder

  -- what attests a provenance meets the expectation where the provenance is expected, and one of
  -- the builders built it
  besides_by : (p : Provenance) → Attests envelope digests p → IsExpected expectation p
      → (level : ℕ) (built : OfSome (BuiltAs p) expectation.builders level)
      → MeetsBesidesLevel panel expectation digests envelope built.0
  besides_by p attests expected level built = record {
    provenance = p;
    is_expected = built.1;
    signed = built.2.signed;
    attests = attests;
    built_by = built.2.id_is;
    build_type = expected.build_type;
    parameters = expected.parameters;
  }

  pub level_by : (p : Provenance) → Attests envelope digests p → IsExpected expectation p
      → (level : ℕ) → OfSome (BuiltAs p) expectation.builders level
      → MeetsAtLevel panel expectation digests envelope level
  level_by p attests expected level built = record {
    builder = built.0;
    besides_level = besides_by p attests expected level built;
    level_is =
        built.2.level_is;
  }

  pub asked_by : (p : Provenance) → Attests envelope digests p → IsExpected expectation p → (n : ℕ)
      → IsAskedOfBuilders panel envelope expectation.builders p.builder expectation.level n
      → IsAskedFor panel expectation digests envelope n
  unfolding besides_by
  asked_by p attests expected n asked =
      let built : OfSome (BuiltAs p) expectation.builders asked.builder.level =
      (asked.builder, asked.stands, asked.built) in
      record {
        meets = record {
          builder = asked.builder;
          besides_level =
              besides_by p attests expected asked.builder.level built;
          level_is_enough =
              asked.is_enough;
        };
        tried = asked.tried;
      }

  expected_of : (p : Provenance) → Attests envelope digests p → (level : ℕ)
      → MeetsAtLevel panel expectation digests envelope level → IsExpected expectation p
  expected_of p attests level met =
      let m = met.besides_level in
      subst (IsExpected expectation) (attests_one digests envelope m.provenance p m.attests attests)
      (record { build_type = m.build_type; parameters = m.parameters })

  pub built_of : (p : Provenance) → Attests envelope digests p → (level : ℕ)
      → MeetsAtLevel panel expectation digests envelope level
      → OfSome (BuiltAs p) expectation.builders level
  built_of p attests level met =
      let m = met.besides_level in
      let built : BuiltAs m.provenance met.builder level = record {
        id_is = m.built_by;
        level_is = met.level_is;
        signed = m.signed;
      } in (
        met.builder,
        m.is_expected,
        subst (λ (q : Provenance). BuiltAs q met.builder level)
            (attests_one digests envelope m.provenance p m.attests attests) built,
      )

  expected_or_not : (p : Provenance) → Settled (IsExpected expectation p)
  expected_or_not p = elim (settled_both (settled_by (bytes_eq p.build_type expectation.build_type)
      (bytes_eq-Decides p.build_type expectation.build_type))
      (parameters_meet_or_not expectation p.parameters)) [
        | inl x ↦ inl (record { build_type = x.0; parameters = x.1 })
        | inr n ↦ inr (λ x. n (x.build_type, x.parameters))
      ]

  -- the level of a builder, where it has the id and signed
  builder_level : (p : Provenance) (builder : Builder) → (best : Option ℕ)
      × IsGreatest (BuiltAs p builder) best
  builder_level p builder =
      elim (settled_both
      (settled_by (bytes_eq p.builder builder.id) (bytes_eq-Decides p.builder builder.id))
      (signed_or_not panel envelope builder)) [
        | inl x ↦ (
          Some builder.level,
          built_greatest panel envelope p.builder builder (record {
            id_is = x.0;
            level_is = refl;
            signed = x.1;
          }),
        )
        | inr n ↦ (None, λ level b. n (b.id_is, b.signed))
      ]

  Best : Type 0
  Best = (best : Option ℕ) × IsGreatest (MeetsAtLevel panel expectation digests envelope) best

  with_attested : (p : Provenance) → Attests envelope digests p → Best
  unfolding Best
  with_attested p attests = elim (expected_or_not p) [
    | inl expected ↦
        let built = some_greatest (BuiltAs p) (builder_level p) expectation.builders in (
          built.0,
          greatest_alike (OfSome (BuiltAs p) expectation.builders)
              (MeetsAtLevel panel expectation digests envelope) (level_by p attests expected)
              (built_of p attests) built.0 built.1,
        )
    | inr n ↦ (None, λ level m. n (expected_of p attests level m))
  ]

  -- the greatest level with which the envelope meets the expectation in all else
  pub greatest_level : (best : Option ℕ)
      × IsGreatest (MeetsAtLevel panel expectation digests envelope) best
  unfolding Best
  greatest_level = elim (attests_or_not digests envelope) [
    | inl found ↦ with_attested found.0 found.1
    | inr none ↦ (None, λ level m. none m.besides_level.provenance m.besides_level.attests)
  ]

  -- an envelope meets an expectation where it does with a level that is enough
  pub meets_at : (level : ℕ) → MeetsAtLevel panel expectation digests envelope level
      → expectation.level ≤ level → Meets panel expectation digests envelope
  meets_at level m enough = record {
    builder = m.builder;
    besides_level = m.besides_level;
    level_is_enough = let same =
        m.level_is in omega (arith, same, enough);
  }

  pub level_of : (m : Meets panel expectation digests envelope)
      → MeetsAtLevel panel expectation digests envelope m.builder.level
  level_of m = record { builder = m.builder; besides_level = m.besides_level; level_is = refl }

  by_greatest : (best : Option ℕ) → IsGreatest (MeetsAtLevel panel expectation digests envelope)
      best → Settled (Meets panel expectation digests envelope)
  by_greatest None none = inr (λ m. none m.builder.level (level_of m))
  by_greatest (Some level) greatest = elim (leb_tells expectation.level level) [
    | inl enough ↦ inl (meets_at level greatest.0 enough.1)
    | inr less ↦ inr (λ m. absurd
        (omega (arith, less.1, m.level_is_enough, greatest.1 m.builder.level (level_of m))))
  ]

  pub meets_or_not : Settled (Meets panel expectation digests envelope)
  meets_or_not = by_greatest greatest_level.0 greatest_level.1
