-- Lists element by element: what loops over them keep.
use Rattle.std.proofs.Common.{◌≡◌, ◌∙◌, ℕ, ◌+◌, ◌<◌, List, [], ◌∷◌, ◌++◌, All, Contains, Option}
use Rattle.std.proofs.Common.{Some, None, Bool, IfSome, length, map, take, get_or, refl, sym, ap}
use Rattle.std.proofs.Common.{subst, arith}
use Rattle.std.specs.List.{AllZip, cons_option, slice_get}
use Rattle.std.specs.List.Sorted.{IsSortedBy}
use Rattle.std.proofs.lemmas.List.{get_or-map, length-map, map-append, take_more}
use Rattle.std.proofs.lemmas.List.Elements.{All-append, All-nil, All-push, Contains-get_or}
use Rattle.std.proofs.lemmas.Slice.Zip.{all_zipped_more}

-- what is read at a place stands in the list
pub contains_at : {X : Type 0} (xs : List X) (i : ℕ) (x : X) → i < length xs → x ≡ get_or xs i x
    → Contains xs x
contains_at xs i x below here = subst (Contains xs) (sym here) (Contains-get_or xs i x below)

-- what follows a list stands at the place of its length
pub at_length : {X : Type 0} (before : List X) (x : X) (after : List X)
    → slice_get (before ++ x ∷ after) (length before) ≡ Some x
at_length [] x after = refl
at_length (y ∷ before) x after = at_length before x after

-- a relation that holds side by side up to a place, and at it
pub zip_more : {X Y : Type 0} (R : X → Y → Type 0) (xs : List X) (i : ℕ) (x : X) (ys : List Y)
    (y : Y) → i < length xs → x ≡ get_or xs i x → AllZip R (take i xs) ys → R x y
    → AllZip R (take (i + 1) xs) (ys ++ y ∷ [])
zip_more R xs i x ys y below is h r =
    subst (λ zs. AllZip R zs (ys ++ y ∷ [])) (ap (λ z. take i xs ++ z ∷ []) is
    ∙ sym (take_more xs i x below)) (all_zipped_more R (take i xs) ys x y h r)

-- what holds of all holds with one more of which it holds, where there is one
pub kept_all : {X : Type 0} (P : X → Type 0) (xs : List X) (found : Option X) → All P xs
    → IfSome found P → All P (xs ++ cons_option found [])
kept_all P xs None all h = All-append P xs [] all (All-nil P)
kept_all P xs (Some x) all h = All-push P xs x all h

-- one more at the end of two lists of one image
pub map_more : {X Y Z : Type 0} (f : X → Z) (g : Y → Z) (xs : List X) (x : X) (now : List X)
    (ys : List Y) (y : Y) → now ≡ xs ++ x ∷ [] → map f xs ≡ map g ys → f x ≡ g y
    → map f now ≡ map g (ys ++ y ∷ [])
map_more f g xs x now ys y is before same = rw (is, map-append, map-append, before, same) refl

-- a list in order by an image of its elements: the images are in order
pub sorted_map : {X Y : Type 0} (f : X → Y) (lt : Y → Y → Bool) (xs : List X)
    → IsSortedBy (λ a b. lt (f a) (f b)) xs → IsSortedBy lt (map f xs)
sorted_map f lt [] h k d low high = absurd (omega arith)
sorted_map f lt (x ∷ xs) h k d low high =
    let top : k + 1 < length (x ∷ xs) = rw length-map at high in
    let here : k < length (x ∷ xs) = omega arith in
    rw (get_or-map f (x ∷ xs) (k + 1) x d top, get_or-map f (x ∷ xs) k x d here) (h k x low top)
