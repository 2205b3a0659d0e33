use Rattle.std.proofs.Common.{IsNone, IsTrue, Option, refl, subst, ℕ}
use Rattle.it_limits.specs.Limit.{IsWithinLimit}
use Rattle.it_program.proofs.given.refuse_too_many.Goals as goal

pub returns-in-None : goal.returns-in-None
returns-in-None c = λ limited.
    subst (λ (over : Option ℕ). IsNone over → IsTrue c.args.limited
    → IsWithinLimit c.args.bytes.now) c.in-None.is c.in_ok-count.ensures.within refl limited
