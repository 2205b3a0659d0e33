-- Lists of a document, read item by item.
use Rattle.std.proofs.Common.{◌≡◌, ℕ, zero, suc, ◌<◌, List, [], ◌∷◌, length, take, get_or, Option}
use Rattle.std.proofs.Common.{Some, None, option_and_then, is_some, IsTrue, MatchOption, refl, sym}
use Rattle.std.proofs.Common.{ap, subst, ◌∙◌, arith}
use Rattle.std.proofs.lemmas.Option.{same_Some}
use Rattle.serde_json.specs.Data.{Data, Items, no_items, item, array}
use Rattle.serde_json.specs.Find.{as_array, get_item}
use Rattle.serde_json.specs.View.{view, items_view}
use Rattle.serde_json.specs.declared.value.Value.{Value}
use Rattle.serde_json.proofs.Views.{get_item_within}
use Rattle.it_base.specs.Document.{member_at}
use Rattle.it_base.specs.Parts.{IsPartOr}
use Rattle.it_base.specs.Sequence.{AreEach, IsList}
use Rattle.it_base.specs.List.{IsFirstBad, IsListOrMissing, ItemReads, PartItemReads, items_at}

-- each item of a list that was read is a value
pub each_reads : {X : Type 0} (P : Data → X → Type 0) (ds : Items) (xs : List X) → AreEach P ds xs
    → (n : ℕ) → ItemReads P ds n
each_reads P no_items xs h n v e = absurd (cc)
each_reads P (item d ds) [] h n v e = absurd h
each_reads P (item d ds) (x ∷ xs) h zero v e = (x, subst (λ w. P w x) (same_Some d v e) h.0)
each_reads P (item d ds) (x ∷ xs) h (suc n) v e = each_reads P ds xs h.1 n v e

-- the items before a place are those of the list's front
get_item-take : (vs : List Value) (i m : ℕ) → m < i → get_item m (items_view (take i vs))
    ≡ get_item m (items_view vs)
get_item-take vs zero m below = absurd (omega arith)
get_item-take [] (suc i) m below = refl
get_item-take (v ∷ vs) (suc i) zero below = refl
get_item-take (v ∷ vs) (suc i) (suc m) below = get_item-take vs i m (omega arith)

-- an item that is no value, after items that are
pub first_bad : {X : Type 0} (P : Data → X → Type 0) (vs : List Value) (i : ℕ) (v : Value)
    (xs : List X) → i < length vs → v ≡ get_or vs i v → ((x : X) → P (view v) x → ⊥)
    → AreEach P (items_view (take i vs)) xs → IsFirstBad P (items_view vs) i
first_bad P vs i v xs below here none before = record {
  bad = λ reads.
      let found : get_item i (items_view vs) ≡ Some (view v) = sym (get_item_within vs i v below)
      ∙ ap (λ w. Some (view w)) (sym here) in
      let read = reads (view v) found in
      none read.0 read.1;
  before = λ m less w e. each_reads P (items_view (take i vs)) xs before m w
      (get_item-take vs i m less ∙ e);
}

found_list : {X : Type 0} (P : Data → X → Type 0) (found : Option Data) (xs : List X)
    → MatchOption found (xs ≡ []) (λ v. IsList P v xs)
    → MatchOption found (Unit {0}) (λ v. IsTrue (is_some (as_array v)))
found_list P None xs h = tt
found_list P (Some (array ds)) xs h = refl
found_list P (Some d) xs h = absurd h

found_items : {X : Type 0} (P : Data → X → Type 0) (found : Option Data) (xs : List X)
    → MatchOption found (xs ≡ []) (λ v. IsList P v xs)
    → (n : ℕ) → MatchOption (option_and_then as_array found) (Unit {0})
    (λ items. ItemReads P items n)
found_items P None xs h n = tt
found_items P (Some (array ds)) xs h n = each_reads P ds xs h n
found_items P (Some d) xs h n = absurd h

-- what a list that was read says of its items
pub list_reads : {X : Type 0} (P : Data → X → Type 0) (name : List ℕ) (d : Data) (xs : List X)
    → IsPartOr (IsList P) [] name d xs → IsListOrMissing name d
    × ((n : ℕ) → PartItemReads P name d n)
list_reads P name d xs h =
    (found_list P (member_at name d) xs h, λ n. found_items P (member_at name d) xs h n)

fault_list : {X : Type 0} (P : Data → X → Type 0) (found : Option Data) (n : ℕ)
    → MatchOption (option_and_then as_array found) ⊥ (λ items. IsFirstBad P items n)
    → MatchOption found (Unit {0}) (λ v. IsTrue (is_some (as_array v)))
fault_list P None n h = absurd h
fault_list P (Some (array ds)) n h = refl
fault_list P (Some d) n h = absurd h

fault_item : {X : Type 0} (P : Data → X → Type 0) (found : Option Data) (n : ℕ)
    → MatchOption (option_and_then as_array found) ⊥ (λ items. IsFirstBad P items n)
    → (MatchOption (option_and_then as_array found) (Unit {0}) (λ items. ItemReads P items n) → ⊥)
    × ((m : ℕ) → m < n → MatchOption (option_and_then as_array found) (Unit {0})
    (λ items. ItemReads P items m))
fault_item P None n h = absurd h
fault_item P (Some (array ds)) n h = (h.bad, h.before)
fault_item P (Some d) n h = absurd h

-- what the first item that is no value says of the list
pub item_fault : {X : Type 0} (P : Data → X → Type 0) (name : List ℕ) (d : Data) (n : ℕ)
    → MatchOption (items_at name d) ⊥ (λ items. IsFirstBad P items n)
    → IsListOrMissing name d × (PartItemReads P name d n → ⊥)
    × ((m : ℕ) → m < n → PartItemReads P name d m)
item_fault P name d n h =
    let item = fault_item P (member_at name d) n h in
    (fault_list P (member_at name d) n h, item.0, item.1)
