-- Whether a builder signed an envelope, determined once and remembered (specific to this project;
-- no standard covers it).
use Rattle.std.specs.Prelude.{◌≡◌, ◌↔◌, ◌*◌, ◌≤◌, ℕ, List, Bool, IsTrue, length}
use Rattle.std.specs.FinMap.{len}
use Rattle.std.specs.List.{AllZip}
use Rattle.it_dsse.specs.Meter.{RaisedBy}
use Rattle.it_dsse.specs.Panel.{Panel}
use Rattle.it_dsse.specs.Signed.{tries}
use Rattle.it_dsse.specs.declared.envelope.Envelope.{Envelope}
use Rattle.it_dsse.specs.declared.meter.Meter.{Meter}
use Rattle.it_docs.specs.declared.policy.Builder.{Builder}
use Rattle.it_docs.specs.declared.policy.Expectation.{Expectation}
use Rattle.it_prov.specs.Asked.{AtLeast}
use Rattle.it_prov.specs.Meets.{SignedByBuilder}
use Rattle.it_prov.specs.declared.answers.Answer.{Answer}

-- a builder signed the envelope, and n signatures are tried with the key that signed
pub record IsAskedOfBuilder (panel : Panel) (envelope : Envelope) (builder : Builder) (n : ℕ)
    : Type 0 where
  pub signed : SignedByBuilder panel envelope builder
  pub tried : n ≡ tries panel envelope signed.id signed.object

-- whether a builder signed the envelope, and a meter that rose by at most one for each pair of a
-- signature and a key of the builder, and, if it signed, by at least what is tried with the key
-- that signed
pub record IsTold (panel : Panel) (envelope : Envelope) (builder : Builder) (signed : Bool)
    (old : Meter) (new : Meter) : Type 0 where
  pub answer : IsTrue signed ↔ SignedByBuilder panel envelope builder
  pub at_most : RaisedBy (λ n. n ≤ len builder.keys * length envelope.signatures) old new
  pub at_least : IsTrue signed → RaisedBy (AtLeast (IsAskedOfBuilder panel envelope builder)) old
      new

-- the meter before anything is asked
abbrev pub unasked : Meter
unasked = record { asked = 0 }

-- the same for a remembered answer, with a meter that began at zero
abbrev pub IsAnswer : Panel → Envelope → Builder → Answer → Type 0
IsAnswer panel envelope builder answer =
    IsTold panel envelope builder answer.signed unasked answer.asked

-- the answers for builders, in their order
abbrev pub AreAnswers : Panel → Envelope → List Builder → List Answer → Type 0
AreAnswers panel envelope = AllZip (IsAnswer panel envelope)

-- the answers for the builders of each expectation, in their order
abbrev pub AreAllAnswers : Panel → Envelope → List Expectation → List (List Answer) → Type 0
AreAllAnswers panel envelope =
    AllZip (λ expectation answers. AreAnswers panel envelope expectation.builders answers)
