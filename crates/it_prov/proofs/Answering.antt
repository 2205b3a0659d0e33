-- What is remembered of who signed an envelope.
use Rattle.std.proofs.Common.{◌≡◌, ◌<◌, ℕ, List, Option, Some, None, IfSome, IsTrue, Any}
use Rattle.std.proofs.Common.{length, get_or, sym}
use Rattle.std.specs.List.{slice_get}
use Rattle.std.proofs.lemmas.Option.{get_or_from_slice_get}
use Rattle.it_dsse.specs.Panel.{Panel}
use Rattle.it_dsse.specs.declared.envelope.Envelope.{Envelope}
use Rattle.it_docs.specs.declared.policy.Builder.{Builder}
use Rattle.it_docs.specs.declared.policy.Expectation.{Expectation}
use Rattle.it_prov.specs.Answered.{AreAllAnswers, AreAnswers, IsAnswer}
use Rattle.it_prov.specs.Held.{HoldsOrNone, SignedForOne}
use Rattle.it_prov.specs.declared.answers.Answer.{Answer}
use Rattle.it_prov.specs.declared.attestations.Attestation.{Attestation}
use Rattle.it_prov.specs.inside.Judged.{HasAnswers}
use Rattle.it_prov.specs.inside.Shared.{SomeSigned}
use Rattle.it_prov.proofs.Holding.{zip_before, zip_beside, zip_length, zip_read, zip_stands}

module _ (panel : Panel) (envelope : Envelope) where
  pub signed_for_one : (expectations : List Expectation) (answers : List (List Answer))
      → AreAllAnswers panel envelope expectations answers → Any SomeSigned answers
      → SignedForOne panel expectations envelope
  signed_for_one expectations answers all some =
      let at = zip_before (λ (e : Expectation) a. AreAnswers panel envelope e.builders a)
      expectations
      answers some.1 all (some.0, some.2, some.3) in
      let one = some.4 in
      let by = zip_before (IsAnswer panel envelope) (at.0).builders some.1 one.1 at.2
      (one.0, one.2, one.3) in
      record {
        expectation = at.0;
        builder = by.0;
        is_expectation = at.1;
        is_builder = by.1;
        signed = by.2.answer.0 one.4;
      }

  pub some_for_one : (expectations : List Expectation) (answers : List (List Answer))
      → AreAllAnswers panel envelope expectations answers
      → SignedForOne panel expectations envelope → Any SomeSigned answers
  some_for_one expectations answers all signs =
      let at = zip_beside (λ (e : Expectation) a. AreAnswers panel envelope e.builders a)
      expectations
      answers signs.expectation all signs.is_expectation in
      let by = zip_beside (IsAnswer panel envelope) signs.expectation.builders at.0 signs.builder
      at.2
      signs.is_builder in
      let one : SomeSigned at.0 =
      (by.1.0, by.0, by.1.1, by.1.2, by.2.answer.1 signs.signed) in
      (at.1.0, at.0, at.1.1, at.1.2, one)

  -- the answer that stands at the place of a builder is the one for it
  pub answer_for : (builders : List Builder) (answers : List Answer) (i : ℕ) (builder : Builder)
      → AreAnswers panel envelope builders answers → i < length builders
      → builder ≡ get_or builders i builder
      → (answer : Answer) → slice_get answers i ≡ Some answer
      → IsAnswer panel envelope builder answer
  answer_for builders answers i builder are below here answer stands =
      zip_read (IsAnswer panel envelope) builders answers i builder answer are below here
      (sym (get_or_from_slice_get answers i answer answer stands))

  -- what an envelope attests has an answer for each builder of each expectation
  pub has_answers : (expectations : List Expectation) (place : ℕ) (expectation : Expectation)
      (held : Option Attestation) → HoldsOrNone panel expectations envelope held
      → slice_get expectations place ≡ Some expectation
      → IfSome held (HasAnswers place expectation.builders)
  has_answers expectations place expectation None none stands = tt
  has_answers expectations place expectation (Some attestation) attested stands =
      let beside = zip_stands (λ (e : Expectation) a. AreAnswers panel envelope e.builders a)
      expectations attestation.answers place expectation attested.answers stands in
      record {
        answers = beside.0;
        stands = beside.1;
        as_many = zip_length (IsAnswer panel envelope) expectation.builders beside.0 beside.2;
      }
