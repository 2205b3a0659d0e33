use Rattle.it_words.specs.Values.{IsForm, IsSummary}
use Rattle.it_words.specs.declared.words.form.Form.TheVariants.{Lines}
use Rattle.it_words.proofs.Unfit.{part_unfit}
use Rattle.it_words.proofs.words.verify_words.summary.Goals as goal

pub returns-in_err-form-clause-unfit : goal.returns-in_err-form-clause-unfit
returns-in_err-form-clause-unfit c =
    part_unfit (IsSummary _) _ _ c.from_residual.ensures.1 (IsForm _) (λ words. Lines)
    (λ words is. is.no_form) c.in_err-form.ensures.unfit
