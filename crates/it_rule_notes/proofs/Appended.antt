-- Texts that are appended one after another.
use Rattle.std.proofs.Common.{◌≡◌, ℕ, List, ◌++◌, Result, Ok, Err, OnOk, ap, ◌∙◌, append_assoc}

-- two texts that were appended, where the second was
pub appended_twice : {T E : Type 0} (r : Result T E) (text middle new first second : List ℕ)
    → middle ≡ text ++ first → OnOk r (new ≡ middle ++ second)
    → OnOk r (new ≡ text ++ (first ++ second))
appended_twice (Ok x) text middle new first second was now =
    now ∙ ap (λ t. t ++ second) was ∙ append_assoc text first second
appended_twice (Err e) text middle new first second was now = tt

-- the same where both were
pub appended_next : (text middle new first second : List ℕ) → middle ≡ text ++ first
    → new ≡ middle ++ second → new ≡ text ++ (first ++ second)
appended_next text middle new first second was now =
    now ∙ ap (λ t. t ++ second) was ∙ append_assoc text first second
