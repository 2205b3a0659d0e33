-- The two digest lists of a verification, by their algorithms.
use Rattle.std.specs.Prelude.{ℕ, List}
use Rattle.it_digest.specs.declared.sums.ListAlgorithm.{ListAlgorithm}
use Rattle.it_digest.specs.declared.sums.ListAlgorithm.TheVariants.{Sha256, Sha512}
use Rattle.it_report.specs.declared.refusal.Fault.{Fault}
use Rattle.it_report.specs.declared.refusal.Fault.TheVariants.{BadSums, BadSums512}
use Rattle.it_verify.specs.declared.inputs.Inputs.{Inputs}

-- the digest list by an algorithm
abbrev pub list_in : ListAlgorithm → Inputs → List ℕ
list_in Sha256 inputs = inputs.sums
list_in Sha512 inputs = inputs.sums512

-- that a line of it is bad
abbrev pub bad_line : ListAlgorithm → ℕ → Fault
bad_line Sha256 number = BadSums number
bad_line Sha512 number = BadSums512 number
