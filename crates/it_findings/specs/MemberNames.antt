-- The names of the members that have a meaning at a place.
use Rattle.std.specs.Prelude.{ℕ, List, [], ◌∷◌, codes}
use Rattle.it_findings.specs.declared.place.Place.{Place}
use Rattle.it_findings.specs.declared.place.Place.TheVariants.{Policy, Expectation, Builder}
use Rattle.it_findings.specs.declared.place.Place.TheVariants.{Layout, Step, Inspection, Key}
use Rattle.it_findings.specs.declared.place.Place.TheVariants.{KeyValue}

-- the members that are looked at: those of policies are this profile's choice, those of layouts and
-- keys are in in-toto 1.0 sections 4.2 and 4.3
abbrev pub read_names : Place → List (List ℕ)
read_names Policy = codes "owners" ∷ codes "deliver" ∷ codes "expectations" ∷ []
read_names (Expectation n) =
    codes "files" ∷ codes "builders" ∷ codes "buildType" ∷ codes "parameters" ∷ codes "ignore"
    ∷ codes "level" ∷ []
read_names (Builder expectation builder) = codes "id" ∷ codes "keys" ∷ codes "level" ∷ []
read_names Layout =
    codes "_type" ∷ codes "expires" ∷ codes "keys" ∷ codes "steps" ∷ codes "inspect" ∷ []
read_names (Step n) =
    codes "name" ∷ codes "threshold" ∷ codes "pubkeys" ∷ codes "expected_materials"
    ∷ codes "expected_products" ∷ []
read_names (Inspection n) =
    codes "name" ∷ codes "expected_materials" ∷ codes "expected_products" ∷ []
read_names (Key key) = codes "keytype" ∷ codes "scheme" ∷ codes "keyval" ∷ []
read_names (KeyValue key) = codes "public" ∷ codes "identity" ∷ codes "issuer" ∷ []

-- further members that in-toto 1.0 (sections 4.2 and 4.3) or its implementations know and that are
-- not looked at
abbrev pub known_names : Place → List (List ℕ)
known_names Policy = []
known_names (Expectation n) = []
known_names (Builder expectation builder) = []
known_names Layout = codes "readme" ∷ codes "rootcas" ∷ codes "intermediatecas" ∷ []
known_names (Step n) = codes "_type" ∷ codes "expected_command" ∷ codes "cert_constraints" ∷ []
known_names (Inspection n) = codes "_type" ∷ codes "run" ∷ []
known_names (Key key) =
    codes "keyid" ∷ codes "keyid_hash_algorithms" ∷ codes "type" ∷ codes "method"
    ∷ codes "hashes" ∷ codes "subkeys" ∷ codes "creation_time" ∷ codes "validity_period" ∷ []
known_names (KeyValue key) = codes "private" ∷ codes "certificate" ∷ []
