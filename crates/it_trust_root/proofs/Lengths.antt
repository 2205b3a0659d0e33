-- A list of a document has one length.
use Rattle.std.proofs.Common.{◌≡◌, ℕ, List, [], ◌∷◌, length, Option, Some, None, MatchOption, refl}
use Rattle.std.proofs.Common.{arith}
use Rattle.serde_json.specs.Data.{Data, Items, no_items, item}
use Rattle.serde_json.specs.Find.{as_array}
use Rattle.it_base.specs.Document.{member_at}
use Rattle.it_base.specs.Parts.{IsPart}
use Rattle.it_base.specs.Sequence.{AreEach, IsList}

-- all lists that a part is have the same length
abbrev pub HasOneLength : {X : Type 0} → (Data → List X → Type 0) → Type 0
HasOneLength {X} P = (d : Data) (xs ys : List X) → P d xs → P d ys → length xs ≡ length ys

each_long : {X : Type 0} (P : Data → X → Type 0) (ds : Items) (xs ys : List X) → AreEach P ds xs
    → AreEach P ds ys → length xs ≡ length ys
each_long P no_items [] [] h k = refl
each_long P no_items [] (y ∷ ys) h k = absurd k
each_long P no_items (x ∷ xs) ys h k = absurd h
each_long P (item d ds) [] ys h k = absurd h
each_long P (item d ds) (x ∷ xs) [] h k = absurd k
each_long P (item d ds) (x ∷ xs) (y ∷ ys) h k = omega (arith, each_long P ds xs ys h.1 k.1)

items_long : {X : Type 0} (P : Data → X → Type 0) (items : Option Items) (xs ys : List X)
    → MatchOption items ⊥ (λ ds. AreEach P ds xs) → MatchOption items ⊥ (λ ds. AreEach P ds ys)
    → length xs ≡ length ys
items_long P None xs ys h k = absurd h
items_long P (Some ds) xs ys h k = each_long P ds xs ys h k

pub list_long : {X : Type 0} (P : Data → X → Type 0) → HasOneLength (IsList P)
list_long P d = items_long P (as_array d)

member_long : {X : Type 0} (P : Data → List X → Type 0) → HasOneLength P → (found : Option Data)
    (xs ys : List X) → MatchOption found ⊥ (λ v. P v xs) → MatchOption found ⊥ (λ v. P v ys)
    → length xs ≡ length ys
member_long P long None xs ys h k = absurd h
member_long P long (Some v) xs ys h k = long v xs ys h k

pub part_long : {X : Type 0} (P : Data → List X → Type 0) → HasOneLength P → (name : List ℕ)
    → HasOneLength (IsPart P name)
part_long P long name d = member_long P long (member_at name d)
