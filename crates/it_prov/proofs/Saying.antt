-- What an envelope attests is what the Statement says that was read of it.
use Rattle.std.proofs.Common.{◌*◌, ◌≤◌, ℕ, List, Option, None, IfSome, Contains, length}
use Rattle.std.proofs.Common.{refl, subst}
use Rattle.it_digest.specs.declared.compare.DigestSet.{DigestSet}
use Rattle.it_dsse.specs.Meter.{RaisedBy}
use Rattle.it_dsse.specs.Panel.{Panel}
use Rattle.it_dsse.specs.declared.envelope.Envelope.{Envelope}
use Rattle.it_dsse.specs.declared.meter.Meter.{Meter}
use Rattle.it_docs.specs.declared.policy.Expectation.{Expectation}
use Rattle.it_docs.specs.declared.statement.Provenance.{Provenance}
use Rattle.it_docs.specs.declared.statement.Statement.{Statement}
use Rattle.it_docs.proofs.Same.{statement_same}
use Rattle.it_prov.specs.Asked.{AtLeast}
use Rattle.it_prov.specs.Best.{MeetsAtLevel}
use Rattle.it_prov.specs.Cost.{key_count}
use Rattle.it_prov.specs.Held.{IsHeld}
use Rattle.it_prov.specs.inside.Judged.{IsAskedOfBuilders, IsBuiltBy, IsEnoughOrGreatest, IsReached}
use Rattle.it_prov.specs.declared.attestations.Attestation.{Attestation}
use Rattle.it_prov.specs.inside.Judged.{HasSubject, OfSome, SaysExpected}
use Rattle.it_prov.specs.Meets.{Attests}
use Rattle.std.proofs.lemmas.Option.{IfSome_then}
use Rattle.it_prov.proofs.Asking.{raised_as, raised_none}
use Rattle.it_prov.proofs.Greatest.{enough_alike}
use Rattle.it_prov.proofs.Meeting.{asked_by, built_of, level_by}

module _ (panel : Panel) (expectations : List Expectation) (expectation : Expectation)
    (is_expectation : Contains expectations expectation) (digests : DigestSet)
    (envelope : Envelope) where
  -- an envelope that meets an expectation in all but a level was signed by a builder of it, and so
  -- its Statement was read
  pub held_of : (level : ℕ) (m : MeetsAtLevel panel expectation digests envelope level)
      → IsHeld panel expectations envelope m.besides_level.attests.statement
  held_of level m =
      let a = m.besides_level.attests in
      record {
        type_is = a.type_is;
        signed = record {
          expectation = expectation;
          builder = m.builder;
          is_expectation = is_expectation;
          is_builder = m.besides_level.is_expected;
          signed = m.besides_level.signed;
        };
        reads = a.reads;
      }

  says_attests : (a : Attestation) → IsHeld panel expectations envelope a.statement
      → HasSubject digests a → (p : Provenance) → SaysExpected expectation a.statement p
      → Attests envelope digests p
  says_attests a held has p h = record {
    statement = a.statement;
    subject = has.1;
    type_is = held.type_is;
    reads = held.reads;
    provenance_is = h.provenance_is;
    is_subject = (has.0, has.2, has.3);
    digests_agree = has.4;
  }

  meets_says : (statement : Statement) → IsHeld panel expectations envelope statement
      → (level : ℕ) (m : MeetsAtLevel panel expectation digests envelope level)
      → SaysExpected expectation statement m.besides_level.provenance
  meets_says statement held level m =
      let a = m.besides_level.attests in
      let says : SaysExpected expectation a.statement m.besides_level.provenance = record {
        provenance_is = a.provenance_is;
        expected = record {
          build_type = m.besides_level.build_type;
          parameters = m.besides_level.parameters;
        };
      } in
      subst (λ (s : Statement). SaysExpected expectation s m.besides_level.provenance)
      (statement_same envelope.payload a.statement statement a.reads held.reads) says

  -- ---- with which level an envelope meets an expectation in all else
  none_reached : (meter : Meter)
      → ((level : ℕ) → ¬ MeetsAtLevel panel expectation digests envelope level)
      → IsReached panel expectation digests envelope meter meter None
  none_reached meter none = record {
    answer = none;
    at_most = raised_none _ meter meter refl;
    at_least = tt;
  }

  -- none, where nothing was read
  pub unread_reached : (meter : Meter)
      → ((statement : Statement) → ¬ IsHeld panel expectations envelope statement)
      → IsReached panel expectation digests envelope meter meter None
  unread_reached meter none =
      none_reached meter (λ level m. none m.besides_level.attests.statement (held_of level m))

  -- none, where the Statement does not say what is expected
  pub unsaid_reached : (meter : Meter) (statement : Statement)
      → IsHeld panel expectations envelope statement
      → ((p : Provenance) → ¬ SaysExpected expectation statement p)
      → IsReached panel expectation digests envelope meter meter None
  unsaid_reached meter statement held none = none_reached meter
      (λ level m. none m.besides_level.provenance (meets_says statement held level m))

  -- and else that of a builder which the Statement names and that signed
  pub said_reached : (old new : Meter) (a : Attestation)
      → IsHeld panel expectations envelope a.statement → HasSubject digests a
      → (p : Provenance) → SaysExpected expectation a.statement p → (level : Option ℕ)
      → IsEnoughOrGreatest expectation.level
      (OfSome (IsBuiltBy panel envelope p.builder) expectation.builders) level
      → RaisedBy (λ n. n ≤ key_count expectation.builders * length envelope.signatures) old new
      → IfSome level (λ n. expectation.level ≤ n → RaisedBy (AtLeast
      (IsAskedOfBuilders panel envelope expectation.builders p.builder expectation.level)) old new)
      → IsReached panel expectation digests envelope old new level
  said_reached old new a held has p says level built most least =
      let attests = says_attests a held has p says in
      record {
        answer = enough_alike expectation.level
            (OfSome (IsBuiltBy panel envelope p.builder) expectation.builders)
            (MeetsAtLevel panel expectation digests envelope)
            (λ n. (
              level_by panel expectation digests envelope p attests says.expected n,
              built_of panel expectation digests envelope p attests n,
            )) level built;
        at_most = most;
        at_least = IfSome_then level least (λ n asked enough.
            raised_as _ _ (asked_by panel expectation digests envelope p attests says.expected)
            old new (asked enough));
      }
