-- Texts that are appended in two parts.
use Rattle.std.proofs.Common.{◌≡◌, ◌∙◌, ◌++◌, ℕ, List, Result, Ok, Err, OnOk, ap, sym, append_assoc}

-- where the second part was appended to the first, the whole is appended
pub appended : {T E : Type 0} (result : Result T E) (start middle end first second whole : List ℕ)
    → middle ≡ start ++ first → whole ≡ first ++ second → OnOk result (end ≡ middle ++ second)
    → OnOk result (end ≡ start ++ whole)
appended (Ok x) start middle end first second whole before parts now =
    now ∙ ap (λ text. text ++ second) before ∙ append_assoc start first second
    ∙ ap (λ text. start ++ text) (sym parts)
appended (Err e) start middle end first second whole before parts now = tt
