-- The answers of the functions that judge an envelope, in the words of the definitions. Nothing
-- that is trusted stands here.
use Rattle.std.specs.Prelude.{◌≡◌, ◌*◌, ◌<◌, ◌≤◌, ℕ, List, Option, Some, None, Contains}
use Rattle.std.specs.Prelude.{Any, IfSome, length, slice_get}
use Rattle.std.specs.Borrow.{Bor}
use Rattle.std.specs.BTreeSet.{BTreeSet}
use Rattle.it_digest.specs.Compare.{Agree}
use Rattle.it_digest.specs.declared.compare.DigestSet.{DigestSet}
use Rattle.it_dsse.specs.Meter.{RaisedBy}
use Rattle.it_dsse.specs.Panel.{Panel}
use Rattle.it_dsse.specs.Signed.{tries}
use Rattle.it_dsse.specs.declared.envelope.Envelope.{Envelope}
use Rattle.it_dsse.specs.declared.meter.Meter.{Meter}
use Rattle.it_base.specs.Json.{Json, Fields}
use Rattle.it_base.specs.TreeOf.{field_at}
use Rattle.it_docs.specs.declared.policy.Builder.{Builder}
use Rattle.it_docs.specs.declared.policy.Expectation.{Expectation}
use Rattle.it_docs.specs.declared.statement.Provenance.{Provenance}
use Rattle.it_docs.specs.declared.statement.Statement.{Statement}
use Rattle.it_prov.specs.Asked.{AtLeast, IsAskedFor}
use Rattle.it_prov.specs.Best.{MeetsAtLevel}
use Rattle.it_prov.specs.Cost.{key_count}
use Rattle.it_prov.specs.declared.answers.Answer.{Answer}
use Rattle.it_prov.specs.declared.attestations.Attestation.{Attestation}
use Rattle.it_prov.specs.Ignored.{is_among, is_one_of}
use Rattle.it_prov.specs.Meets.{ParametersMeet, SignedByBuilder, StandsEqual}

-- a set has the names of a list, and no others
abbrev pub HasNames : List (List ℕ) → BTreeSet (Bor (List ℕ)) → Type 0
HasNames names set = (name : List ℕ) → is_among set.keys name ≡ is_one_of names name

-- the tree expected under a name, if any, is there
abbrev pub IsMet : Fields → Fields → List ℕ → Type 0
IsMet expected given name =
    (tree : Json) → field_at name expected ≡ Some tree → StandsEqual given name tree

-- a parameter may stand under a name: one is expected there, or the name may be ignored
abbrev pub MayStand : Expectation → List ℕ → Type 0
MayStand expectation name =
    field_at name expectation.parameters ≡ None → Contains expectation.ignore name

-- P holds of each name under which there is a tree
abbrev pub OfEachName : (List ℕ → Type 0) → Fields → Type 0
OfEachName P fields = (name : List ℕ) (tree : Json) → field_at name fields ≡ Some tree → P name

-- the build is of the expected type and has the expected parameters
pub record IsExpected (expectation : Expectation) (provenance : Provenance) : Type 0 where
  pub build_type : provenance.build_type ≡ expectation.build_type
  pub parameters : ParametersMeet expectation provenance.parameters

-- R holds of a number with one of the elements
abbrev pub OfSome : {X : Type 0} → (X → ℕ → Type 0) → List X → ℕ → Type 0
OfSome {X} R xs n = (x : X) × Contains xs x × R x n

-- a number of which P holds, at least the wanted one or otherwise the greatest, or none where P
-- holds of none
abbrev pub IsEnoughOrGreatest : ℕ → (ℕ → Type 0) → Option ℕ → Type 0
IsEnoughOrGreatest wanted P None = (n : ℕ) → ¬ P n
IsEnoughOrGreatest wanted P (Some level) = P level × (level < wanted → (n : ℕ) → P n → n ≤ level)

-- a number, where there is one, is less than the wanted one
abbrev pub IsShort : ℕ → Option ℕ → Type 0
IsShort wanted best = IfSome best (λ n. n < wanted)

-- a builder has this id and this level, and signed the envelope
pub record IsBuiltBy (panel : Panel) (envelope : Envelope) (id : List ℕ) (builder : Builder)
    (level : ℕ) : Type 0 where
  pub id_is : id ≡ builder.id
  pub level_is : level ≡ builder.level
  pub signed : SignedByBuilder panel envelope builder

-- one of the builders has this id and at least the wanted level and signed the envelope, and n
-- signatures are tried with its key
pub record IsAskedOfBuilders (panel : Panel) (envelope : Envelope) (builders : List Builder)
    (id : List ℕ) (wanted : ℕ) (n : ℕ) : Type 0 where
  pub builder : Builder
  pub stands : Contains builders builder
  pub built : IsBuiltBy panel envelope id builder builder.level
  pub is_enough : wanted ≤ builder.level
  pub tried : n ≡ tries panel envelope built.signed.id built.signed.object

-- the Statement has this provenance, which is expected
pub record SaysExpected (expectation : Expectation) (statement : Statement)
    (provenance : Provenance) : Type 0 where
  pub provenance_is : statement.provenance ≡ Some provenance
  pub expected : IsExpected expectation provenance

-- a subject of the Statement has the digests
abbrev pub HasSubject : DigestSet → Attestation → Type 0
HasSubject digests attestation =
    Any (λ subject. Agree subject digests) attestation.statement.subjects

-- at a place there is an answer for each of the builders
pub record HasAnswers (place : ℕ) (builders : List Builder) (attestation : Attestation) : Type 0
  where
    pub answers : List Answer
    pub stands : slice_get attestation.answers place ≡ Some answers
    pub as_many : length answers ≡ length builders

-- the level of a builder with which an envelope meets an expectation in all but the level, one that
-- is high enough, otherwise the greatest, and how far the meter was raised for it
pub record IsReached (panel : Panel) (expectation : Expectation) (digests : DigestSet)
    (envelope : Envelope) (old : Meter) (new : Meter) (reached : Option ℕ) : Type 0 where
  pub answer : IsEnoughOrGreatest expectation.level
      (MeetsAtLevel panel expectation digests envelope) reached
  pub at_most : RaisedBy
      (λ n. n ≤ key_count expectation.builders * length envelope.signatures) old new
  pub at_least : IfSome reached (λ level. expectation.level ≤ level
      → RaisedBy (AtLeast (IsAskedFor panel expectation digests envelope)) old new)
