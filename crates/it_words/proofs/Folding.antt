-- A fold over the images of the elements of a list, as far as a loop has come.
use Rattle.std.proofs.Common.{◌≡◌, ◌+◌, ◌<◌, ◌≤◌, ℕ, List, fold, get_or, length, map, take}
use Rattle.std.proofs.lemmas.List.{map-append, take_all, take_more}
use Rattle.std.proofs.lemmas.List.Sums.{fold-append}

module _ {A B C : Type 0} (f : B → C → B) (h : A → C) (start : B) (xs : List A) (i : ℕ) where
  -- one element further
  pub one_more : (d : A) → i < length xs
      → fold f start (map h (take (i + 1) xs)) ≡ f (fold f start (map h (take i xs))) (h (get_or xs i d))
  one_more d less = rw (take_more xs i d less, map-append, fold-append)

  -- at the end
  pub all_taken : length xs ≤ i → fold f start (map h (take i xs)) ≡ fold f start (map h xs)
  all_taken past = rw (take_all i xs past)
