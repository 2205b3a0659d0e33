-- Which list a part is, or where it fails first, as an answer.
use Rattle.std.proofs.Common.{◌≡◌, ℕ, zero, suc, ◌<◌, List, [], ◌∷◌, true, Option, Some, None}
use Rattle.std.proofs.Common.{MatchOption, option_and_then, is_some, IsTrue, Result, Ok, Err}
use Rattle.std.proofs.Common.{MatchResult, arith, refl, subst}
use Rattle.std.proofs.lemmas.Option.{same_Some}
use Rattle.serde_json.specs.Data.{Data, Items, no_items, item}
use Rattle.serde_json.specs.Find.{as_array, get_item}
use Rattle.it_base.specs.Document.{member_at}
use Rattle.it_base.specs.Finds.{Finds}
use Rattle.it_base.specs.Parts.{IsPartOr}
use Rattle.it_base.specs.Sequence.{AreEach, IsList}
use Rattle.it_base.proofs.Decided.{Reads}
use Rattle.it_base.specs.List.{IsFirstBad, IsListOrMissing, items_at}

abbrev more_items : {X : Type 0} → Option X → Result (List X) ℕ → Result (List X) ℕ
more_items None rest = Err 0
more_items (Some x) (Ok xs) = Ok (x ∷ xs)
more_items (Some x) (Err n) = Err (suc n)

-- the values of the items, or the place of the first that is none
abbrev items_of : {X : Type 0} → (Data → Option X) → Items → Result (List X) ℕ
items_of f no_items = Ok []
items_of f (item d ds) = more_items (f d) (items_of f ds)

abbrev or_place : {X : Type 0} → Result (List X) ℕ → Result (List X) (Option ℕ)
or_place (Ok xs) = Ok xs
or_place (Err n) = Err (Some n)

abbrev items_or_none : {X : Type 0} → (Data → Option X) → Option Items → Result (List X) (Option ℕ)
items_or_none f None = Err None
items_or_none f (Some ds) = or_place (items_of f ds)

abbrev found_items : {X : Type 0} → (Data → Option X) → Option Data → Result (List X) (Option ℕ)
found_items f None = Ok []
found_items f (Some v) = items_or_none f (as_array v)

-- the list that the member of this name is, and [] where it is missing; or the place of the first
-- item that is no value, or no place where it is no list
abbrev pub numbered_of : {X : Type 0} → (Data → Option X) → List ℕ → Data
    → Result (List X) (Option ℕ)
numbered_of f name d = found_items f (member_at name d)

module _ {X : Type 0} (P : Data → X → Type 0) (f : Data → Option X) (reads : Reads P f) where
  bad_here : (d : Data) (ds : Items) → ((x : X) → ¬ P d x) → IsFirstBad P (item d ds) 0
  bad_here d ds none = record {
    bad = λ read. let r = read d refl in none r.0 r.1;
    before = λ m less. absurd (omega arith);
  }

  bad_later : (d : Data) (ds : Items) (x : X) (n : ℕ) → P d x → IsFirstBad P ds n
      → IsFirstBad P (item d ds) (suc n)
  bad_later d ds x n is h = record { bad = h.bad; before = go }
    where
      go : (m : ℕ) → m < suc n → (v : Data) → get_item m (item d ds) ≡ Some v → (x : X) × P v x
      go zero less v e = (x, subst (λ w. P w x) (same_Some d v e) is)
      go (suc m) less v e = h.before m (omega arith) v e

  more_items-are : (d : Data) (ds : Items) (first : Option X) (rest : Result (List X) ℕ)
      → Finds (P d) first → MatchResult rest (AreEach P ds) (IsFirstBad P ds)
      → MatchResult (more_items first rest) (AreEach P (item d ds)) (IsFirstBad P (item d ds))
  more_items-are d ds None rest none h = bad_here d ds none
  more_items-are d ds (Some x) (Ok xs) is h = (is, h)
  more_items-are d ds (Some x) (Err n) is h = bad_later d ds x n is h

  items_of-are : (ds : Items) → MatchResult (items_of f ds) (AreEach P ds) (IsFirstBad P ds)
  items_of-are no_items = tt
  items_of-are (item d ds) = more_items-are d ds (f d) (items_of f ds) (reads d) (items_of-are ds)

  -- why a member is no list of values
  abbrev IsPlace : Option Data → Option ℕ → Type 0
  IsPlace found place =
      MatchOption place (¬ MatchOption found (Unit {0}) (λ v. IsTrue (is_some (as_array v))))
      (λ n. MatchOption (option_and_then as_array found) ⊥ (λ items. IsFirstBad P items n))

  at_items : (v : Data) (items : Option Items) → as_array v ≡ items
      → MatchResult (items_or_none f items) (λ xs. MatchOption items ⊥ (λ ds. AreEach P ds xs))
      (λ place. MatchOption place (¬ IsTrue (is_some items))
      (λ n. MatchOption items ⊥ (λ ds. IsFirstBad P ds n)))
  at_items v None e = λ h. cc
  at_items v (Some ds) e = go (items_of f ds) (items_of-are ds)
    where
      go : (r : Result (List X) ℕ) → MatchResult r (AreEach P ds) (IsFirstBad P ds)
          → MatchResult (or_place r) (AreEach P ds)
          (λ place. MatchOption place (¬ IsTrue true) (IsFirstBad P ds))
      go (Ok xs) h = h
      go (Err n) h = h

  found_items-are : (found : Option Data) → MatchResult (found_items f found)
      (λ xs. MatchOption found (xs ≡ []) (λ v. IsList P v xs)) (IsPlace found)
  found_items-are None = refl
  found_items-are (Some v) = at_items v (as_array v) refl

  pub numbered_of-is : (name : List ℕ) (d : Data)
      → MatchResult (numbered_of f name d) (IsPartOr (IsList P) [] name d)
      (λ place. MatchOption place (¬ IsListOrMissing name d)
      (λ n. MatchOption (items_at name d) ⊥ (λ items. IsFirstBad P items n)))
  numbered_of-is name d = found_items-are (member_at name d)
