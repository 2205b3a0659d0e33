-- Where the answers for builders stand, one of which serves all builders with the same keys.
-- Nothing that is trusted stands here.
use Rattle.std.specs.Prelude.{◌≡◌, ◌↔◌, ℕ, List, Some, Any, IsTrue, false, map, unwrap_or}
use Rattle.std.specs.Borrow.{Bor}
use Rattle.std.specs.BTreeMap.{get}
use Rattle.std.specs.List.{slice_get}
use Rattle.std.specs.Ordering.{nat_cmp}
use Rattle.it_dsse.specs.Panel.{Panel}
use Rattle.it_dsse.specs.declared.envelope.Envelope.{Envelope}
use Rattle.it_docs.specs.declared.policy.Builder.{Builder}
use Rattle.it_prov.specs.Answered.{IsAnswer, unasked}
use Rattle.it_prov.specs.Meets.{SignedByBuilder}
use Rattle.it_prov.specs.declared.answers.Answer.{Answer}
use Rattle.it_prov.specs.declared.some_answers.SomeAnswers.{SomeAnswers}

-- the answer for a builder that cannot have signed, so that nothing is asked
abbrev pub not_signed : Answer
not_signed = record { signed = false; asked = unasked }

-- the answer at a place; where there is none, that of a builder that cannot have signed
abbrev pub answer_at : SomeAnswers → ℕ → Answer
answer_at answers place = unwrap_or (get nat_cmp answers.by_place place) not_signed

-- the answers at some places
abbrev pub answers_at : SomeAnswers → List ℕ → List Answer
answers_at answers = map (answer_at answers)

-- some answer says that the builder signed
abbrev pub SomeSigned : List Answer → Type 0
SomeSigned = Any (λ (answer : Answer). IsTrue answer.signed)

-- whether an answer at one of the places in these lists says that the builder signed
abbrev pub TellsSigned : SomeAnswers → List (List ℕ) → Type 0
TellsSigned answers lists =
    IsTrue answers.some_signed ↔ Any SomeSigned (map (answers_at answers) lists)

module _ (panel : Panel) (envelope : Envelope) (builders : List (Bor Builder)) where
  -- the builder at a place signed the envelope
  pub record SignedAt (place : ℕ) : Type 0 where
    pub builder : Bor Builder
    pub stands : slice_get builders place ≡ Some builder
    pub signed : SignedByBuilder panel envelope builder.now

  -- an answer is that for the builder at a place
  pub record IsAnswerAt (place : ℕ) (answer : Answer) : Type 0 where
    pub builder : Bor Builder
    pub stands : slice_get builders place ≡ Some builder
    pub is : IsAnswer panel envelope builder.now answer

  -- each answer is that for the builder at its place, and it is known whether one says that the
  -- builder signed
  pub record HoldAnswers (answers : SomeAnswers) : Type 0 where
    pub each : (place : ℕ) (answer : Answer) → get nat_cmp answers.by_place place ≡ Some answer
        → IsAnswerAt place answer
    pub some : IsTrue answers.some_signed → (place : ℕ) × SignedAt place
    pub none : (place : ℕ) (answer : Answer) → get nat_cmp answers.by_place place ≡ Some answer
        → IsTrue answer.signed → IsTrue answers.some_signed

  -- the same with an answer for each builder
  pub record AreAnswersFor (answers : SomeAnswers) : Type 0 where
    pub each : (place : ℕ) (builder : Bor Builder) → slice_get builders place ≡ Some builder
        → IsAnswer panel envelope builder.now (answer_at answers place)
    pub some : IsTrue answers.some_signed → (place : ℕ) × SignedAt place
    pub none : (place : ℕ) → IsTrue (answer_at answers place).signed → IsTrue answers.some_signed
