-- Places in lists, and the items at them.
use Rattle.std.proofs.Common.{◌≡◌, ◌∙◌, ◌<◌, ◌+◌, ◌-◌, ℕ, List, [], ◌∷◌, ◌++◌, true, false}
use Rattle.std.proofs.Common.{Option, Some, None, ap, arith, length, refl}
use Rattle.std.proofs.Common.{length-append, nat_eq, slice_get, sym, ◌≤◌, Bor, IfSome, MatchOption, get_or, map, option_map, take}
use Rattle.std.specs.List.{cons_option}
use Rattle.std.specs.Option.{option_copied, option_map_or}
use Rattle.std.proofs.lemmas.List.{take_more}
use Rattle.std.proofs.lemmas.Option.{slice_get-get_or, slice_get-map, slice_get_past}
use Rattle.std.proofs.lemmas.List.Elements.{filter_map-append}
use Rattle.it_base.proofs.Elements.{at_length}
use Rattle.it_chain.specs.inside.Places.{is_last, items_at}

-- one place more
pub place_more : {X : Type 0} (items : List X) (places : List ℕ) (place : ℕ) (x : X)
    → slice_get items place ≡ Some x
    → items_at items (places ++ place ∷ []) ≡ items_at items places ++ x ∷ []
place_more items places place x here = filter_map-append (slice_get items) places (place ∷ [])
    ∙ ap (λ o. items_at items places ++ cons_option o []) here

-- the item that is found at a place
pub found_at : {X : Type 0} (items : List X) (place : ℕ) (Q : Bor X → Type 0)
    (found : Option (Bor X))
    → IfSome found (λ x. x.now ≡ get_or items place x.now)
    → MatchOption found (length items ≤ place) (λ x. (place < length items) × Q x)
    → option_copied found ≡ slice_get items place
found_at items place Q None same past = sym (slice_get_past items place past)
found_at items place Q (Some x) same within = sym (slice_get-get_or items place x.now within.0
    ∙ ap Some (sym same))

-- the items at places, and then at one more
pub items_more : {X : Type 0} (items : List X) (places : List ℕ) (i : ℕ) → i < length places
    → items_at items (take (i + 1) places)
    ≡ items_at items (take i places) ++ cons_option (slice_get items (get_or places i 0)) []
items_more items places i below = ap (items_at items) (take_more places i 0 below)
    ∙ filter_map-append (slice_get items) (take i places) (get_or places i 0 ∷ [])

-- the images of the items at places
mapped_first : {X Y : Type 0} (f : X → Y) (first : Option X) (rest : List X)
    → map f (cons_option first rest) ≡ cons_option (option_map f first) (map f rest)
mapped_first f None rest = refl
mapped_first f (Some x) rest = refl

pub items_mapped : {X Y : Type 0} (f : X → Y) (items : List X) (places : List ℕ)
    → map f (items_at items places) ≡ items_at (map f items) places
items_mapped f items [] = refl
items_mapped f items (place ∷ places) =
    mapped_first f (slice_get items place) (items_at items places)
    ∙ ap (λ o. cons_option o (map f (items_at items places))) (sym (slice_get-map f items place))
    ∙ ap (cons_option (slice_get (map f items) place)) (items_mapped f items places)

-- ---- whether a place is the last
same_self : (n : ℕ) → nat_eq n n ≡ true
same_self n = grind arith

pub last_pushed : (place : ℕ) (places : List ℕ) → is_last place (places ++ place ∷ []) ≡ true
last_pushed place places =
    let end : length (places ++ place ∷ []) - 1 ≡ length places =
    omega (arith, length-append places (place ∷ [])) in
    ap (λ n. option_map_or (nat_eq place) (slice_get (places ++ place ∷ []) n) false) end
    ∙ ap (λ o. option_map_or (nat_eq place) o false) (at_length places place [])
    ∙ same_self place
