-- What a strict verification finds (a word of this project).
use Rattle.std.specs.Prelude.{◌≡◌, ◌⊎◌, ℕ, List}
use Rattle.it_dsse.specs.Panel.{Panel}
use Rattle.it_outcome.specs.declared.outcome.Status.{Status}
use Rattle.it_strict.specs.Found.{AreFound, IsNothing}
use Rattle.it_strict.specs.declared.found.Found.{Found}
use Rattle.it_verify.specs.declared.documents.Documents.{Documents}
use Rattle.it_verify.specs.declared.evidence.Evidence.{Evidence}
use Rattle.it_verify.specs.Made.{IsMadeBy}
use Rattle.it_verify.specs.declared.inputs.Inputs.{Inputs}
use Rattle.it_vouched.specs.declared.vouched.Vouched.{Vouched}
use Rattle.it_verify_command.specs.FoundOutput.{found_in}
use Rattle.it_verify_command.specs.VerifyOutputIn.{IsVerifyOutputIn}
use Rattle.it_verify_command.specs.declared.output_form.OutputForm.{OutputForm}
use Rattle.it_verify_command.specs.declared.output_form.OutputForm.TheVariants.{Full}

-- the delivered files were made as the owners prescribed, and this is what is found all the same
pub record IsFoundIn (panel : Panel) (inputs : Inputs) (found : Found) : Type 0 where
  pub documents : Documents
  pub evidence : Evidence
  pub made : IsMadeBy panel inputs documents evidence
  pub are_found : AreFound panel inputs documents evidence found

-- the same, and nothing is found
pub record StandsStrictly (panel : Panel) (inputs : Inputs) : Type 0 where
  pub found : Found
  pub is_found : IsFoundIn panel inputs found
  pub is_nothing : IsNothing found

-- the same, and something is found, of which this is the text in a form
pub record HasFindings (form : OutputForm) (panel : Panel) (inputs : Inputs) (text : List ℕ)
    : Type 0 where
  pub found : Found
  pub is_found : IsFoundIn panel inputs found
  pub is_something : ¬ IsNothing found
  pub text_is : text ≡ found_in form found

-- the text is what a strict verification writes as its output: that for the verdict, or, in the
-- full form, what is found
abbrev pub IsStrictOutput : OutputForm → Panel → List Vouched → Inputs → List ℕ → Type 0
IsStrictOutput form panel vouched inputs text =
    ((status : Status) × IsVerifyOutputIn form panel vouched inputs text status)
    ⊎ ((form ≡ Full) × HasFindings form panel inputs text)
