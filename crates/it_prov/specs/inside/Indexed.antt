-- The answers of the functions that make the index, and of those that search by it. Nothing that is
-- trusted stands here.
use Rattle.std.specs.Prelude.{◌≡◌, ◌↔◌, ◌+◌, ◌<◌, ◌==◌, ◌&&◌, ◌||◌, ℕ, List, [], ◌∷◌}
use Rattle.std.specs.Prelude.{Bool, false, if◌then◌else◌, Option, Contains, IsTrue}
use Rattle.std.specs.List.{list_any}
use Rattle.std.specs.Option.{option_map_or}
use Rattle.std.specs.Str.{bytes_eq}
use Rattle.it_digest.specs.Compare.{Agree}
use Rattle.it_digest.specs.DigestSet.{Algorithm, value_in}
use Rattle.it_digest.specs.declared.compare.DigestSet.{DigestSet}
use Rattle.it_prov.specs.Index.{Entries, entries_by, has_digest, is_of, lists}
use Rattle.it_prov.specs.declared.index.Entry.{Entry}
use Rattle.it_prov.specs.declared.index.Index.{Index}

-- the places of the elements that pass a test, in order, given the place of the first element
abbrev pub places_where : {X : Type 0} → (X → Bool) → ℕ → List X → List ℕ
places_where test first [] = []
places_where test first (x ∷ xs) =
    if test x then first ∷ places_where test (first + 1) xs else places_where test (first + 1) xs

-- all places are below a number
abbrev pub AreBelow : ℕ → List ℕ → Type 0
AreBelow most places = (place : ℕ) → Contains places place → place < most

-- a test tells which subjects agree with some digests
abbrev pub TellsAgreement : DigestSet → (DigestSet → Bool) → Type 0
TellsAgreement digests test = (subject : DigestSet) → IsTrue (test subject) ↔ Agree subject digests

-- ---- how it is made
-- an entry was put under a digest, where there is one
pub record IsAddedUnder (under : Option (List ℕ)) (entry : Entry) (old new : Entries) : Type 0 where
  pub lists_more : (digest : List ℕ) (test : DigestSet → Bool) (place : ℕ)
      → lists new digest test place
      ≡ (lists old digest test place
      || (option_map_or (bytes_eq digest) under false && is_of test place entry))

-- an entry was put under each digest of its subject
abbrev pub IsAdded : Entry → Index → Index → Type 0
IsAdded entry old new =
    (algorithm : Algorithm)
    → IsAddedUnder (value_in algorithm entry.subject) entry (entries_by algorithm old)
    (entries_by algorithm new)

-- the same for these subjects of the envelope at a place
abbrev pub AreAdded : ℕ → List DigestSet → Index → Index → Type 0
AreAdded here subjects old new =
    (algorithm : Algorithm) (digest : List ℕ) (test : DigestSet → Bool) (place : ℕ)
    → lists (entries_by algorithm new) digest test place
    ≡ (lists (entries_by algorithm old) digest test place || ((here == place)
    && list_any (λ subject. has_digest algorithm digest subject && test subject) subjects))
