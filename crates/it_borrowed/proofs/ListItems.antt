-- Lists of a document, read item by item.
use Rattle.std.proofs.Common.{◌≡◌, ℕ, zero, suc, ◌+◌, ◌<◌, List, [], ◌∷◌, ◌++◌, length, take}
use Rattle.std.proofs.Common.{get_or, sym, ap, subst, arith, ◌∙◌}
use Rattle.std.proofs.lemmas.List.{take_more}
use Rattle.std.specs.declared.alloc.Global.{Global}
use Rattle.json.specs.Value.{items_view}
use Rattle.json.specs.declared.value.Value.{Value}
use Rattle.serde_json.specs.Data.{Data}
use Rattle.it_base.specs.Sequence.{AreEach}
use Rattle.it_borrowed.specs.Tree.{as_data, data_of_items}

module _ {X : Type 0} (P : Data → X → Type 0) where
  each_push : (vs : List (Value Global)) (xs : List X) (v : Value Global) (x : X)
      → AreEach P (data_of_items (items_view vs)) xs → P (as_data v) x
      → AreEach P (data_of_items (items_view (vs ++ v ∷ []))) (xs ++ x ∷ [])
  each_push [] [] v x h p = (p, tt)
  each_push [] (y ∷ ys) v x h p = absurd h
  each_push (w ∷ vs) [] v x h p = absurd h
  each_push (w ∷ vs) (y ∷ ys) v x h p = (h.0, each_push vs ys v x h.1 p)

  -- one more item is read
  pub each_more : (vs : List (Value Global)) (i : ℕ) (v : Value Global) (xs : List X) (x : X)
      → i < length vs → v ≡ get_or vs i v → AreEach P (data_of_items (items_view (take i vs))) xs
      → P (as_data v) x
      → AreEach P (data_of_items (items_view (take (i + 1) vs))) (xs ++ x ∷ [])
  each_more vs i v xs x below here before p =
      let cut : take (i + 1) vs ≡ take i vs ++ v ∷ [] = take_more vs i v below
      ∙ ap (λ y. take i vs ++ y ∷ []) (sym here) in
      rw cut (each_push (take i vs) xs v x before p)

  -- an item that is no element leaves no list
  pub each_none : (vs : List (Value Global)) (i : ℕ) (v : Value Global) → i < length vs
      → v ≡ get_or vs i v → ((x : X) → P (as_data v) x → ⊥) → (xs : List X)
      → AreEach P (data_of_items (items_view vs)) xs → ⊥
  each_none [] i v below here no_element xs h = absurd (omega arith)
  each_none (w ∷ vs) i v below here no_element [] h = h
  each_none (w ∷ vs) zero v below here no_element (x ∷ xs) h =
      no_element x (subst (λ y. P (as_data y) x) (sym here) h.0)
  each_none (w ∷ vs) (suc i) v below here no_element (x ∷ xs) h =
      each_none vs i v (omega arith) here no_element xs h.1
