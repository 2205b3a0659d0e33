-- Maps of names: one more, and those of a list.
use Rattle.std.proofs.Common.{◌≡◌, ◌∙◌, ℕ, ◌+◌, ◌<◌, List, Bool, true, false, Option, Some, is_some}
use Rattle.std.proofs.Common.{All, cond, get_or, length, take, refl, ap, subst}
use Rattle.std.specs.FinMap.{get, get-insert, insert}
use Rattle.std.proofs.lemmas.Cmp.{nat_list_cmp_total}
use Rattle.std.proofs.lemmas.List.Elements.{All-more, All-weaker}
use Rattle.std.proofs.lemmas.Map.Text.{is_eq-slice_cmp}
use Rattle.std.proofs.lemmas.Slice.Eq.{bytes_eq-Decides}
use Rattle.it_base.specs.Table.{Named}
use Rattle.it_member_notes.specs.inside.NamedLayout.{HasName, HasNamesOf}

-- ---- one more name
module _ (names : Named (Unit {0})) (name : List ℕ) (value : Unit {0}) where
  some_either : (same : Bool) (found : Option (Unit {0})) → is_some found ≡ true
      → is_some (cond same (Some value) found) ≡ true
  some_either true found has = refl
  some_either false found has = has

  pub has_added : HasName (insert names name value) name
  has_added =
      let at : get (insert names name value) name ≡ Some value =
      get-insert nat_list_cmp_total names name value name
      ∙ rw (is_eq-slice_cmp name name ∙ (bytes_eq-Decides name name).1 refl) refl in
      ap is_some at

  pub kept_added : HasNamesOf names (insert names name value)
  kept_added other has = ap is_some (get-insert nat_list_cmp_total names name value other)
      ∙ some_either _ (get names other) has

-- ---- the names of a list
module _ {X : Type 0} (name_of : X → List ℕ) (xs : List X) where
  -- a map that has the names up to a place has those up to the next, with the name that is there
  pub names_more : (i : ℕ) (x : X) (before after : Named (Unit {0})) → i < length xs
      → x ≡ get_or xs i x → HasNamesOf before after → HasName after (name_of x)
      → All (λ y. HasName before (name_of y)) (take i xs)
      → All (λ y. HasName after (name_of y)) (take (i + 1) xs)
  names_more i x before after below here kept has all =
      All-more (λ y. HasName after (name_of y)) xs i x below
      (All-weaker (λ y. HasName before (name_of y)) (λ y. HasName after (name_of y))
      (λ y h. kept (name_of y) h) (take i xs) all)
      (subst (λ y. HasName after (name_of y)) here has)
