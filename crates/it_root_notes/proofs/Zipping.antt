-- Two lists that are tied place by place, one of which grows.
use Rattle.std.proofs.Common.{◌≡◌, ◌∙◌, ◌++◌, ◌+◌, ◌<◌, ◌≤◌, ℕ, List, [], ◌∷◌, ap, get_or, length}
use Rattle.std.proofs.Common.{subst, sym, take}
use Rattle.std.specs.List.{AllZip}
use Rattle.std.proofs.lemmas.List.{take_all, take_more}

module _ {X Y : Type 0} (R : X → Y → Type 0) where
  one_more : (xs : List X) (ys : List Y) (x : X) (y : Y) → AllZip R xs ys → R x y
      → AllZip R (xs ++ x ∷ []) (ys ++ y ∷ [])
  one_more [] [] x y all is = (is, tt)
  one_more [] (z ∷ ys) x y all is = absurd all
  one_more (w ∷ xs) [] x y all is = absurd all
  one_more (w ∷ xs) (z ∷ ys) x y all is = (all.0, one_more xs ys x y all.1 is)

  -- one element more
  pub zip_more : (xs : List X) (i : ℕ) (x : X) (done new : List Y) (y : Y) → i < length xs
      → x ≡ get_or xs i x → AllZip R (take i xs) done → R x y → new ≡ done ++ y ∷ []
      → AllZip R (take (i + 1) xs) new
  zip_more xs i x done new y below is before holds after =
      let front : take (i + 1) xs ≡ take i xs ++ x ∷ [] =
      take_more xs i x below ∙ ap (λ (z : X). take i xs ++ z ∷ []) (sym is) in
      subst (λ l. AllZip R l new) (sym front)
      (subst (λ l. AllZip R (take i xs ++ x ∷ []) l) (sym after)
      (one_more (take i xs) done x y before holds))

  -- all elements
  pub all_zipped : (xs : List X) (i : ℕ) (done : List Y) → length xs ≤ i
      → AllZip R (take i xs) done → AllZip R xs done
  all_zipped xs i done ends all = subst (λ l. AllZip R l done) (take_all i xs ends) all
