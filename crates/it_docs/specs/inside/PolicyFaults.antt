-- Why a document is not a policy, as the functions that read its parts report it.
use Rattle.serde_json.specs.Data.{Data}
use Rattle.it_docs.specs.FirstPart.{IsFirstPart}
use Rattle.it_docs.specs.PolicyPart.{PartReads, place}
use Rattle.it_docs.specs.declared.policy_fault.PolicyFault.{PolicyFault}
use Rattle.it_docs.specs.declared.policy_fault.PolicyFault.TheVariants.{BadPolicy, OutOfMemory}
use Rattle.it_docs.specs.declared.policy_fault.PolicyPart.{PolicyPart}
use Rattle.it_docs.specs.declared.policy_fault.PolicyPart.TheVariants.{Expectations, Expectation}
use Rattle.it_docs.specs.inside.Numbered.{IsNumberedPart}

-- the part that a fault names, if it names one
abbrev pub NamesPart : (PolicyPart → Type 0) → PolicyFault → Type 0
NamesPart P (BadPolicy part) = P part
NamesPart P OutOfMemory = Unit {0}

-- why a document is not a policy
abbrev pub IsPolicyFault : Data → PolicyFault → Type 0
IsPolicyFault d = NamesPart (IsFirstPart place (PartReads d))

-- why the expectations of a document cannot be read
abbrev pub IsExpectationsFault : Data → PolicyFault → Type 0
IsExpectationsFault d = NamesPart (IsNumberedPart (PartReads d) Expectations Expectation)
