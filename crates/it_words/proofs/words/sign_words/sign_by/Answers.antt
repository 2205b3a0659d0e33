use Rattle.std.proofs.Common.{◌≡◌, ◌∙◌, List, Some, None, codes, sym}
use Rattle.clap.specs.Words.{Row, Text, first_of}
use Rattle.std.proofs.lemmas.Result.{err_from_is_err_and}
use Rattle.it_words.specs.Values.{IsSignBy}
use Rattle.it_words.specs.declared.words.sign_words.MadePaths.{MadePaths}
use Rattle.it_words.specs.declared.words.sign_words.SignBy.{SignBy}
use Rattle.it_words.specs.declared.words.sign_words.SignBy.TheVariants.{Ring, Made}
use Rattle.it_words.proofs.words.sign_words.sign_by.Goals as goal

no_some : (text : Text) → None ≡ Some text → ⊥
no_some text same = cc

module _ (values : List Row) where
  -- where a ring is given, it makes the signature, and nothing stands beside it
  by_ring : (ring : Text) → first_of (codes "ring") values ≡ Some ring → (by : SignBy)
      → IsSignBy values by → (first_of (codes "signature") values ≡ None)
      × (first_of (codes "keys") values ≡ None)
  by_ring ring given (Ring path) is = (is.1, is.2)
  by_ring ring given (Made paths) is = absurd (no_some ring (sym is.0 ∙ given))

  -- where none is given, somebody else made it
  by_other : first_of (codes "ring") values ≡ None → (by : SignBy) → IsSignBy values by
      → (paths : MadePaths) × (first_of (codes "signature") values ≡ Some paths.signature)
      × (first_of (codes "keys") values ≡ Some paths.keys)
  by_other none (Ring path) is = absurd (no_some path (sym none ∙ is.0))
  by_other none (Made paths) is = (paths, is.1, is.2)

pub returns-in_err-absent-in-Some-clause-unfit : goal.returns-in_err-absent-in-Some-clause-unfit
returns-in_err-absent-in-Some-clause-unfit c =
    let e = err_from_is_err_and c.from_residual-in_err-absent-in-Some.result
    c.from_residual-in_err-absent-in-Some.ensures.1 in
    rw e.1 (λ unfit by is. c.in_err-absent-in-Some.ensures.unfit
    (by_ring c.args.values.now _ (c.in_ok-ring.ensures ∙ c.in-Some.is) by is).0)

pub returns-in_err-absent-in-Some-2-clause-unfit : goal.returns-in_err-absent-in-Some-2-clause-unfit
returns-in_err-absent-in-Some-2-clause-unfit c =
    let e = err_from_is_err_and c.from_residual-in_err-absent-in-Some-2.result
    c.from_residual-in_err-absent-in-Some-2.ensures.1 in
    rw e.1 (λ unfit by is. c.in_err-absent-in-Some-2.ensures.unfit
    (by_ring c.args.values.now _ (c.in_ok-ring.ensures ∙ c.in-Some.is) by is).1)

pub returns-in_err-needed-in-None-clause-unfit : goal.returns-in_err-needed-in-None-clause-unfit
returns-in_err-needed-in-None-clause-unfit c =
    let e = err_from_is_err_and c.from_residual-in_err-needed-in-None.result
    c.from_residual-in_err-needed-in-None.ensures.1 in
    rw (e.1, e.2) (λ unfit by is.
    let found = by_other c.args.values.now (c.in_ok-ring.ensures ∙ c.in-None.is) by is in
    no_some found.0.signature (sym (c.in_err-needed-in-None.ensures.unfit unfit) ∙ found.1))

pub returns-in_err-needed-in-None-2-clause-unfit : goal.returns-in_err-needed-in-None-2-clause-unfit
returns-in_err-needed-in-None-2-clause-unfit c =
    let e = err_from_is_err_and c.from_residual-in_err-needed-in-None-2.result
    c.from_residual-in_err-needed-in-None-2.ensures.1 in
    rw (e.1, e.2) (λ unfit by is.
    let found = by_other c.args.values.now (c.in_ok-ring.ensures ∙ c.in-None.is) by is in
    no_some found.0.keys (sym (c.in_err-needed-in-None-2.ensures.unfit unfit) ∙ found.2))
