use Rattle.std.proofs.Common.{refl}
use Rattle.it_base.proofs.Alphabets.{unmarked}
use Rattle.it_base.proofs.base64_text.standard_outcome.Goals as goal

pub returns-clause-unmarked : goal.returns-clause-unmarked
returns-clause-unmarked c =
    unmarked c.args.text.now c.decode.result (c.decode.ensures.exact (refl, refl))
