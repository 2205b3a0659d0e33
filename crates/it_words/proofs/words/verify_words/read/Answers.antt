use Rattle.it_words.specs.Values.{GivesNumber, IsAsked, IsDepth, IsVerify}
use Rattle.it_words.proofs.Unfit.{missing, part_unfit}
use Rattle.it_words.proofs.words.verify_words.read.Goals as goal

pub returns-in_err-needed-clause-unfit : goal.returns-in_err-needed-clause-unfit
returns-in_err-needed-clause-unfit c =
    missing (IsVerify _) _ _ c.from_residual-in_err-needed.ensures.1 _ (λ words. words.policy)
    (λ words is. is.policy) c.in_err-needed.ensures.unfit

pub returns-in_err-needed-2-clause-unfit : goal.returns-in_err-needed-2-clause-unfit
returns-in_err-needed-2-clause-unfit c =
    missing (IsVerify _) _ _ c.from_residual-in_err-needed-2.ensures.1 _ (λ words. words.layout)
    (λ words is. is.layout) c.in_err-needed-2.ensures.unfit

pub returns-in_err-needed-3-clause-unfit : goal.returns-in_err-needed-3-clause-unfit
returns-in_err-needed-3-clause-unfit c =
    missing (IsVerify _) _ _ c.from_residual-in_err-needed-3.ensures.1 _ (λ words. words.links)
    (λ words is. is.links) c.in_err-needed-3.ensures.unfit

pub returns-in_err-needed-4-clause-unfit : goal.returns-in_err-needed-4-clause-unfit
returns-in_err-needed-4-clause-unfit c =
    missing (IsVerify _) _ _ c.from_residual-in_err-needed-4.ensures.1 _ (λ words. words.at)
    (λ words is. is.at) c.in_err-needed-4.ensures.unfit

pub returns-in_err-asked-clause-unfit : goal.returns-in_err-asked-clause-unfit
returns-in_err-asked-clause-unfit c =
    part_unfit (IsVerify _) _ _ c.from_residual-in_err-asked.ensures.1
    (IsAsked c.args.values.now) (λ words. words.output) (λ words is. is.output)
    c.in_err-asked.ensures.unfit

pub returns-in_err-depth-clause-unfit : goal.returns-in_err-depth-clause-unfit
returns-in_err-depth-clause-unfit c =
    part_unfit (IsVerify _) _ _ c.from_residual-in_err-depth.ensures.1 (IsDepth _)
    (λ words. words.depth) (λ words is. is.depth) c.in_err-depth.ensures.unfit

pub returns-in_err-most_checks-clause-unfit : goal.returns-in_err-most_checks-clause-unfit
returns-in_err-most_checks-clause-unfit c =
    part_unfit (IsVerify _) _ _ c.from_residual-in_err-most_checks.ensures.1 (GivesNumber _)
    (λ words. words.most_checks) (λ words is. is.most_checks) c.in_err-most_checks.ensures.unfit
