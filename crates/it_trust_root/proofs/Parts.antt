-- Members of members.
use Rattle.std.proofs.Common.{◌≡◌, ℕ, List, Option, Some, MatchOption, Result, IfOk, subst}
use Rattle.serde_json.specs.Data.{Data}
use Rattle.it_base.specs.Document.{member_at}
use Rattle.it_base.specs.Finds.{Finds}
use Rattle.it_base.specs.Parts.{IsPart}

-- what is read of a member is read of that member of the whole
pub part_of : {X E : Type 0} (P : Data → X → Type 0) (name : List ℕ) (d v : Data)
    (r : Result (Option X) E) → Some v ≡ member_at name d → IfOk r (Finds (P v))
    → IfOk r (Finds (IsPart P name d))
part_of {X} P name d v r is h =
    subst (λ found. IfOk r (Finds {X = X} (λ x. MatchOption found ⊥ (λ w. P w x)))) is h
