-- What is true of all bytes and their elements.
use Rattle.std.specs.Prelude.{◌≡◌, ℕ, List}
use Rattle.it_der.specs.Element.{BeginsWith, AreElements, Tagged}

-- bytes begin with an element in at most one way
abbrev pub OneFirst : Type 0
OneFirst = (bytes : List ℕ) (tag tag' : ℕ) (content content' rest rest' : List ℕ)
    → BeginsWith bytes tag content rest → BeginsWith bytes tag' content' rest'
    → (tag ≡ tag') × (content ≡ content') × (rest ≡ rest')

-- bytes are elements in at most one way
abbrev pub OneReading : Type 0
OneReading = (bytes : List ℕ) (elements others : List Tagged)
    → AreElements bytes elements → AreElements bytes others → elements ≡ others
