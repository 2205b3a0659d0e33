use Rattle.it_words.specs.Values.{IsStatement}
use Rattle.it_words.proofs.Unfit.{missing}
use Rattle.it_words.proofs.words.statement_words.read.Goals as goal

pub returns-in_err-needed-clause-unfit : goal.returns-in_err-needed-clause-unfit
returns-in_err-needed-clause-unfit c =
    missing (IsStatement _) _ _ c.from_residual.ensures.1 _ (λ words. words.sums)
    (λ words is. is.sums) c.in_err-needed.ensures.unfit

pub returns-in_err-needed-2-clause-unfit : goal.returns-in_err-needed-2-clause-unfit
returns-in_err-needed-2-clause-unfit c =
    missing (IsStatement _) _ _ c.from_residual-in_err-needed-2.ensures.1 _ (λ words. words.builder)
    (λ words is. is.builder) c.in_err-needed-2.ensures.unfit

pub returns-in_err-needed-3-clause-unfit : goal.returns-in_err-needed-3-clause-unfit
returns-in_err-needed-3-clause-unfit c =
    missing (IsStatement _) _ _ c.from_residual-in_err-needed-3.ensures.1 _ (λ words. words.build_type)
    (λ words is. is.build_type) c.in_err-needed-3.ensures.unfit
