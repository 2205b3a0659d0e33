-- Policies (this profile's choice).
use Rattle.std.specs.Prelude.{◌≢◌, ℕ, List, [], codes}
use Rattle.std.specs.FinMap.{empty}
use Rattle.serde_json.specs.Data.{Data}
use Rattle.it_base.specs.Document.{OfDocument}
use Rattle.it_base.specs.Parts.{IsPart, IsPartOr}
use Rattle.it_base.specs.Sequence.{IsList}
use Rattle.it_base.specs.Text.{IsText}
use Rattle.it_dsse.specs.KeyObject.{IsKeyObject}
use Rattle.it_dsse.specs.declared.key_object.KeyObject.{KeyObject}
use Rattle.it_base.specs.Json.{no_fields}
use Rattle.it_docs.specs.Level.{IsLevelPart}
use Rattle.it_docs.specs.Rule.{IsRule}
use Rattle.it_base.specs.Table.{IsTable, Named}
use Rattle.it_base.specs.TreeOf.{IsMembers}
use Rattle.it_docs.specs.declared.policy.Builder.{Builder}
use Rattle.it_docs.specs.declared.policy.Expectation.{Expectation}
use Rattle.it_docs.specs.declared.policy.Policy.{Policy}

-- a builder of an expectation; its keys must be there, and may be empty
pub record IsBuilderOf (d : Data) (builder : Builder) : Type 0 where
  pub id : IsPart IsText (codes "id") d builder.id
  pub keys : IsPart (IsTable IsKeyObject) (codes "keys") d builder.keys
  pub level : IsLevelPart d builder.level

-- an expectation of a policy; a pattern is its text
pub record IsExpectation (d : Data) (expectation : Expectation) : Type 0 where
  pub files : IsPart IsText (codes "files") d expectation.files
  pub builders : IsPartOr (IsList IsBuilderOf) [] (codes "builders") d expectation.builders
  pub build_type : IsPart IsText (codes "buildType") d expectation.build_type
  pub parameters : IsPartOr IsMembers no_fields (codes "parameters") d expectation.parameters
  pub ignore : IsPartOr (IsList IsText) [] (codes "ignore") d expectation.ignore
  pub level : IsLevelPart d expectation.level

-- the owners of a policy, at least one
pub record HasOwners (d : Data) (owners : Named KeyObject) : Type 0 where
  pub part : IsPart (IsTable IsKeyObject) (codes "owners") d owners
  pub some : owners ≢ empty

-- a policy in a document; the type ensures that there is an owner, so a document without one is
-- not a policy
pub record IsPolicy (d : Data) (policy : Policy) : Type 0 where
  pub owners : IsPart (IsTable IsKeyObject) (codes "owners") d policy.owners
  pub deliver : IsPartOr (IsList IsRule) [] (codes "deliver") d policy.deliver
  pub expectations : IsPartOr (IsList IsExpectation) [] (codes "expectations") d policy.expectations

-- the bytes are a document that is this policy
abbrev pub PolicyOf : List ℕ → Policy → Type 0
PolicyOf = OfDocument IsPolicy
