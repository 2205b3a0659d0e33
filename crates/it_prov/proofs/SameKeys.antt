-- Maps whose entries are walked side by side.
use Rattle.std.proofs.Common.{◌≡◌, ◌∙◌, ◌++◌, ℕ, List, [], ◌∷◌, append_assoc}
use Rattle.std.proofs.Common.{sym, ap}
use Rattle.std.specs.FinMap.{entries, same_entries_map}
use Rattle.it_base.specs.Table.{Named}

module _ {X : Type 0} (one other : Named X) where
  -- the entries before the rest of both maps are the same
  pub record Walked (rest others : List (List ℕ × X)) : Type 0 where
    pub done : List (List ℕ × X)
    pub one_is : entries one ≡ done ++ rest
    pub other_is : entries other ≡ done ++ others

  pub walked_none : (rest others : List (List ℕ × X)) → rest ≡ entries one
      → others ≡ entries other → Walked rest others
  walked_none rest others is are = record { done = []; one_is = sym is; other_is = sym are }

  pub walked_more : (e f : List ℕ × X) (rest others : List (List ℕ × X))
      → Walked (e ∷ rest) (f ∷ others) → e ≡ f → Walked rest others
  walked_more e f rest others h same = record {
    done = h.done ++ e ∷ [];
    one_is = h.one_is ∙ sym (append_assoc h.done (e ∷ []) rest);
    other_is = h.other_is ∙ ap (λ g. h.done ++ g ∷ others) (sym same)
        ∙ sym (append_assoc h.done (e ∷ []) others);
  }

  pub walked_all : Walked [] [] → one ≡ other
  walked_all h = same_entries_map one other (h.one_is ∙ sym h.other_is)
