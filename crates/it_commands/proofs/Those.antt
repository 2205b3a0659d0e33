-- Whether there are elements of which a fact holds.
use Rattle.std.proofs.Common.{◌≡◌, zero, suc, List, [], ◌∷◌, refl, sym, subst, inl, inr, arith}
use Rattle.std.specs.Prelude.{Any}
use Rattle.it_dsse.specs.Signed.{AreThose}

-- where some element is kept, the fact holds of it
pub any_kept : {X : Type 0} (P : X → Type 0) (xs kept : List X) → AreThose P xs kept
    → (kept ≡ [] → ⊥) → Any P xs
any_kept P [] kept none some = absurd (some none)
any_kept P (x ∷ xs) kept (inl here) some = (0, x, omega arith, refl, here.0)
any_kept P (x ∷ xs) kept (inr later) some =
    let found = any_kept P xs kept later.1 some in
    (suc found.0, found.1, omega arith, found.3, found.4)

-- where the fact holds of some element, one is kept
pub kept_any : {X : Type 0} (P : X → Type 0) (xs kept : List X) → AreThose P xs kept → Any P xs
    → kept ≡ [] → ⊥
kept_any P [] kept those (k, x, below, is, holds) none = absurd (omega arith)
kept_any P (x ∷ xs) kept (inl (p, kept_is)) any none = let made = kept_is.1 in cc
kept_any P (x ∷ xs) kept (inr later) (zero, y, below, is, holds) none =
    later.0 (subst P (sym is) holds)
kept_any P (x ∷ xs) kept (inr later) (suc k, y, below, is, holds) none =
    kept_any P xs kept later.1 (k, y, omega arith, is, holds) none
