-- Values that do not fit, where a part of them does not.
use Rattle.std.proofs.Common.{◌≡◌, ◌∙◌, Option, Result, Some, None, sym}
use Rattle.std.specs.Result.{IfErr, IsErrAnd}
use Rattle.std.proofs.lemmas.Result.{err_from_is_err_and}
use Rattle.it_words.specs.declared.words.values.ValuesFault.{ValuesFault}
use Rattle.it_words.specs.declared.words.values.ValuesFault.TheVariants.{Unfit}
use Rattle.it_words.specs.inside.Unfit.{FitsNone}

module _ {X V : Type 0} (P : X → Type 0) (answer : Result X ValuesFault) (fault : ValuesFault) where
  -- a part that a reader finds nothing for
  pub part_unfit : IsErrAnd answer (λ error. error ≡ fault) → (Q : V → Type 0) (part : X → V)
      → ((x : X) → P x → Q (part x)) → FitsNone Q fault → IfErr answer (FitsNone P)
  part_unfit is Q part wants none =
      let e = err_from_is_err_and answer is in
      rw (e.1, e.2) (λ unfit x fits. none unfit (part x) (wants x fits))

  -- a value that has to be given, and was not
  pub missing : IsErrAnd answer (λ error. error ≡ fault) → (given : Option V) (value : X → V)
      → ((x : X) → P x → given ≡ Some (value x)) → (fault ≡ Unfit → given ≡ None)
      → IfErr answer (FitsNone P)
  missing is given value wants none =
      part_unfit is (λ v. given ≡ Some v) value wants (λ unfit v some.
      let bad : None ≡ Some v = sym (none unfit) ∙ some in
      cc)
