-- Which sublayouts were listed. Nothing here is trusted.
use Rattle.std.specs.Prelude.{◌≡◌, ◌↔◌, ◌⊎◌, ℕ, Bool, IsTrue, List, map, string_bytes}
use Rattle.std.specs.BTreeSet.{contains_by}
use Rattle.std.specs.Cmp.Lexicographic.{slice_cmp}
use Rattle.std.specs.Ordering.{nat_cmp, ordering_then}
use Rattle.it_sublayouts.specs.declared.listed.ListedSublayouts.{ListedSublayouts}

-- whether the sublayout in a payload was listed over these folders, one in another
abbrev pub was_listed : ListedSublayouts → List (List ℕ) → List ℕ → Bool
was_listed listed folders payload =
    contains_by (λ place. ordering_then
    (slice_cmp (slice_cmp nat_cmp) folders (map string_bytes place.0.items))
    (slice_cmp nat_cmp payload place.1.items)) listed.places

-- one more was listed
abbrev pub IsAdded : ListedSublayouts → ListedSublayouts → List (List ℕ) → List ℕ → Type 0
IsAdded old new folders payload =
    (f : List (List ℕ)) (p : List ℕ) → IsTrue (was_listed new f p)
    ↔ (IsTrue (was_listed old f p) ⊎ ((folders ≡ f) × (payload ≡ p)))
