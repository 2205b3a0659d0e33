-- Bytes that tell one key at most.
use Rattle.std.proofs.Common.{◌≡◌, ◌↔◌, Bool, IsTrue, subst, sym}

-- what holds of the one key that the bytes tell
pub of_one_key : {K : Type 0} (Tells P : K → Type 0) (key : K) → Tells key
    → ((other : K) → Tells other → key ≡ other) → (b : Bool) → (IsTrue b ↔ P key)
    → IsTrue b ↔ ((k : K) × Tells k × P k)
of_one_key Tells P key tells one b judged = (
  λ t. (key, tells, judged.0 t),
  λ found. judged.1 (subst P (sym (one found.0 found.1)) found.2),
)
