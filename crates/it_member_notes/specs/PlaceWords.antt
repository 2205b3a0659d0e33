-- Names, and places of a policy and a layout, in lines for people (this project's words).
use Rattle.std.specs.Prelude.{ℕ, List, ◌++◌, codes, decimal}
use Rattle.it_report.specs.Name.{cut_form}
use Rattle.it_findings.specs.declared.place.KeyPlace.{KeyPlace}
use Rattle.it_findings.specs.declared.place.KeyPlace.TheVariants as keys
use Rattle.it_findings.specs.declared.place.Place.{Place}
use Rattle.it_findings.specs.declared.place.Place.TheVariants as places

-- a name in quotation marks, such a name after a text, and between two texts
unfoldable pub quoted : List ℕ → List ℕ
quoted name = codes "\"" ++ cut_form name ++ codes "\""

abbrev pub named_form : List ℕ → List ℕ → List ℕ
named_form before name = before ++ quoted name

unfoldable pub told_form : List ℕ → List ℕ → List ℕ → List ℕ
told_form before name after = before ++ quoted name ++ after

-- what a list has under a number, and what it has under an id
abbrev pub number_form : List ℕ → ℕ → List ℕ
number_form list number = list ++ codes "[" ++ decimal number ++ codes "]"

abbrev pub id_form : List ℕ → List ℕ → List ℕ
id_form list id = list ++ told_form (codes "[") id (codes "]")

-- a builder of an expectation of a policy
abbrev pub builder_form : ℕ → ℕ → List ℕ
builder_form expectation builder =
    number_form (codes "policy: expectations") expectation
    ++ number_form (codes ".builders") builder

-- the place of a key object: the document, and the path to the object
abbrev pub key_form : KeyPlace → List ℕ
key_form (keys.Owner id) = id_form (codes "policy: owners") id
key_form (keys.Builder expectation builder id) =
    builder_form expectation builder ++ id_form (codes ".keys") id
key_form (keys.Layout id) = id_form (codes "layout: keys") id

-- the place of any object
abbrev pub place_form : Place → List ℕ
place_form places.Policy = codes "policy: the document"
place_form (places.Expectation n) = number_form (codes "policy: expectations") n
place_form (places.Builder expectation builder) = builder_form expectation builder
place_form places.Layout = codes "layout: the document"
place_form (places.Step n) = number_form (codes "layout: steps") n
place_form (places.Inspection n) = number_form (codes "layout: inspect") n
place_form (places.Key key) = key_form key
place_form (places.KeyValue key) = key_form key ++ codes ".keyval"
