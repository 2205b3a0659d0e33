use Rattle.std.proofs.Common.{IsNone, Option, None, Some, true≢false}
use Rattle.it_base.specs.Finds.{Finds}
use Rattle.it_limits.specs.Limit.{IsOverLimit}
use Rattle.it_disk.proofs.left_out.too_many_in.Goals as goal

none_found : {A : Type 0} (P : A → Type 0) (found : Option A) → Finds P found → IsNone found
    → (x : A) → ¬ P x
none_found P None h none = h
none_found P (Some x) h none = absurd (true≢false none)

pub returns-then-limited-clause-within : goal.returns-then-limited-clause-within
returns-then-limited-clause-within c = λ none limited. none_found
    (IsOverLimit c.args.file.now.bytes) c.file_over_limit.result c.file_over_limit.ensures none
