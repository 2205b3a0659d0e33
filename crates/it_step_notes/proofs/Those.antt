-- Those elements of a list of which a fact holds.
use Rattle.std.proofs.Common.{◌≡◌, ◌<◌, ◌+◌, ◌∙◌, ℕ, List, [], ◌∷◌, ◌++◌, length, take, get_or, sym}
use Rattle.std.proofs.Common.{All, Contains, ap, subst}
use Rattle.std.proofs.lemmas.List.{take_more}
use Rattle.std.proofs.lemmas.List.Elements.{All-contains_itself, All-weaker}
use Rattle.it_base.proofs.Members.{in_none}
use Rattle.it_dsse.specs.Signed.{AreThose}
use Rattle.it_dsse.proofs.Keeping.{keep_last, pass_last}
use Rattle.it_chain.proofs.ClaimedFiles.{in_those, of_those}

module _ {X : Type 0} (P : X → Type 0) (xs : List X) (i : ℕ) (x : X) (kept : List X)
    (below : i < length xs) (here : x ≡ get_or xs i x)
    (before : AreThose P (take i xs) kept) where
  one_more : take (i + 1) xs ≡ take i xs ++ x ∷ []
  one_more = take_more xs i x below ∙ ap (λ y. take i xs ++ y ∷ []) (sym here)

  -- one element more, which is kept
  pub one_kept : P x → AreThose P (take (i + 1) xs) (kept ++ x ∷ [])
  one_kept p = rw one_more (keep_last P (take i xs) kept x before p)

  -- one element more, which is passed over
  pub one_passed : ¬ P x → AreThose P (take (i + 1) xs) kept
  one_passed p = rw one_more (pass_last P (take i xs) kept x before p)

module _ {X : Type 0} (P : X → Type 0) (xs kept : List X) (are : AreThose P xs kept) where
  -- where none is kept, the fact holds of none
  pub none_holds : kept ≡ [] → (x : X) → Contains xs x → ¬ P x
  none_holds none x c p =
      in_none x (subst (λ ys. Contains ys x) none (in_those P xs kept are x c p))

  pub those_hold : All P kept
  those_hold = All-weaker (Contains kept) P (λ x c. (of_those P xs kept are x c).1) kept
      (All-contains_itself kept)

  pub those_stand : All (Contains xs) kept
  those_stand = All-weaker (Contains kept) (Contains xs)
      (λ x c. (of_those P xs kept are x c).0) kept (All-contains_itself kept)
