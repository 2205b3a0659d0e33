-- What is proved about the cost of a verification.
use Rattle.std.specs.Prelude.{◌≡◌, ℕ}
use Rattle.it_dsse.specs.Panel.{Panel}
use Rattle.it_verify.specs.VerificationCost.{VerificationCosts}
use Rattle.it_verify.specs.declared.inputs.Inputs.{Inputs}

-- a verification of inputs costs some number of checks
abbrev pub InputsHaveCost : Type 0
InputsHaveCost = (panel : Panel) (inputs : Inputs) → (n : ℕ) × VerificationCosts panel inputs n

-- and no other
abbrev pub InputsHaveOneCost : Type 0
InputsHaveOneCost =
    (panel : Panel) (inputs : Inputs) (m n : ℕ) → VerificationCosts panel inputs m
    → VerificationCosts panel inputs n → m ≡ n
