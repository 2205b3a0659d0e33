use Rattle.std.proofs.Common.{None, Some}
use Rattle.std.proofs.lemmas.Bool.Decides.{Decides-eqb}
use Rattle.std.proofs.lemmas.Slice.Eq.{strip_prefix_is}
use Rattle.it_certificate.proofs.subject_key.after.Goals as goal

pub returns-in_err-rest : goal.returns-in_err-rest
returns-in_err-rest c = rw c.from_residual.ensures (λ rest size is.
    strip_prefix_is Decides-eqb c.args.content.now c.args.front.now None c.in_err-rest.ensures.cases rest is)

pub returns-then-rest-size : goal.returns-then-rest-size
returns-then-rest-size c = (
  c.if-rest-size.true,
  strip_prefix_is Decides-eqb c.args.content.now c.args.front.now (Some c.in_ok-rest.rest) c.in_ok-rest.ensures.cases,
)
