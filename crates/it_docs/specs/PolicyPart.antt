-- The first part of a policy that fails, in the order of the parts.
use Rattle.std.specs.Prelude.{ℕ, List, [], IsTrue, is_some, codes}
use Rattle.serde_json.specs.Data.{Data}
use Rattle.serde_json.specs.Find.{as_object}
use Rattle.it_base.specs.Document.{IsDocument}
use Rattle.it_base.specs.Parts.{IsPartOr}
use Rattle.it_base.specs.Sequence.{IsList}
use Rattle.it_dsse.specs.declared.key_object.KeyObject.{KeyObject}
use Rattle.it_docs.specs.FirstPart.{IsFirstPart}
use Rattle.it_base.specs.List.{IsListOrMissing, PartItemReads}
use Rattle.it_docs.specs.Policy.{HasOwners, IsExpectation}
use Rattle.it_docs.specs.Rule.{IsRule}
use Rattle.it_base.specs.Table.{Named}
use Rattle.it_docs.specs.declared.policy_fault.PolicyPart.{PolicyPart}
use Rattle.it_docs.specs.declared.policy_fault.PolicyPart.TheVariants.{Json, Owners, Deliver}
use Rattle.it_docs.specs.declared.policy_fault.PolicyPart.TheVariants.{Expectations, Expectation}
use Rattle.it_docs.specs.declared.rule.Rule.{Rule}

-- the parts in their order; expectations are in the order of their numbers
abbrev pub place : PolicyPart → ℕ × ℕ
place Json = (0, 0)
place Owners = (1, 0)
place Deliver = (2, 0)
place Expectations = (3, 0)
place (Expectation n) = (4, n)

-- what a part of a document must be
abbrev pub PartReads : Data → PolicyPart → Type 0
PartReads d Json = IsTrue (is_some (as_object d))
PartReads d Owners = (owners : Named KeyObject) × HasOwners d owners
PartReads d Deliver = (rules : List Rule) × IsPartOr (IsList IsRule) [] (codes "deliver") d rules
PartReads d Expectations = IsListOrMissing (codes "expectations") d
PartReads d (Expectation n) = PartItemReads IsExpectation (codes "expectations") d n

-- the bytes are a document in which this part reads
abbrev pub Reads : List ℕ → PolicyPart → Type 0
Reads bytes part = (d : Data) × IsDocument bytes d × PartReads d part

-- the first part of the bytes that fails
abbrev pub PolicyPartOf : List ℕ → PolicyPart → Type 0
PolicyPartOf bytes = IsFirstPart place (Reads bytes)
