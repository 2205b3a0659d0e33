-- What the functions that judge a line go by, in the words of the definitions. Nothing that is
-- trusted stands here.
use Rattle.std.specs.Prelude.{◌≡◌, ℕ, List, Any, Contains, map}
use Rattle.std.specs.Borrow.{Bor}
use Rattle.it_digest.specs.Compare.{Agree}
use Rattle.it_digest.specs.declared.compare.DigestSet.{DigestSet}
use Rattle.it_dsse.specs.Panel.{Panel}
use Rattle.it_dsse.specs.Signed.{AreThose}
use Rattle.it_dsse.specs.declared.envelope.Envelope.{Envelope}
use Rattle.it_docs.specs.Statement.{StatementOf}
use Rattle.it_docs.specs.declared.policy.Builder.{Builder}
use Rattle.it_docs.specs.declared.policy.Expectation.{Expectation}
use Rattle.it_docs.specs.declared.statement.Statement.{Statement}
use Rattle.it_prov.specs.Meets.{SignedByBuilder}

-- the builders that are lent
abbrev pub lent_builders : List (Bor Builder) → List Builder
lent_builders lent = map (λ builder. builder.now) lent

-- those of the expected builders that signed the envelope, in their order
abbrev pub AreSigners : Panel → Expectation → Envelope → List (Bor Builder) → Type 0
AreSigners panel expectation envelope signers =
    AreThose (SignedByBuilder panel envelope) expectation.builders (lent_builders signers)

-- one of the lent builders has this id, and is of this level
abbrev pub HasLevel : List (Bor Builder) → List ℕ → ℕ → Type 0
HasLevel lent id level = (builder : Bor Builder) × Contains lent builder × (builder.now.id ≡ id)
    × (level ≡ builder.now.level)

-- the payload of an envelope is a Statement with a subject that has the digests
abbrev pub IsAbout : DigestSet → Envelope → Type 0
IsAbout digests envelope = (statement : Statement) × StatementOf envelope.payload statement
    × Any (λ subject. Agree subject digests) statement.subjects
