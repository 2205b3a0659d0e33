-- The algorithms of a digest set (in-toto Attestation v1, DigestSet; the three algorithms are this
-- profile's choice). This is the one place that names them.
use Rattle.std.specs.Prelude.{ℕ, List, [], ◌∷◌, Option, Some, None, codes, refl}
use Rattle.std.specs.Coded.{Coded, code_by, coded×, coded_ℕ, coded_list, coded_option}
use Rattle.it_digest.specs.declared.compare.DigestSet.{DigestSet}

pub data Algorithm : Type 0 where
  in_sha256 : Algorithm
  in_sha384 : Algorithm
  in_sha512 : Algorithm

-- every algorithm
abbrev pub algorithms : List Algorithm
algorithms = in_sha256 ∷ in_sha384 ∷ in_sha512 ∷ []

-- the name of the member that holds an algorithm's value
abbrev pub name_of : Algorithm → List ℕ
name_of in_sha256 = codes "sha256"
name_of in_sha384 = codes "sha384"
name_of in_sha512 = codes "sha512"

-- how many bytes its value has
abbrev pub size_of : Algorithm → ℕ
size_of in_sha256 = 32
size_of in_sha384 = 48
size_of in_sha512 = 64

-- the bytes that a set has under an algorithm, if any
abbrev pub value_in : Algorithm → DigestSet → Option (List ℕ)
value_in in_sha256 set = set.sha256
value_in in_sha384 set = set.sha384
value_in in_sha512 set = set.sha512

abbrev value_code : Coded (Option (List ℕ))
value_code = coded_option (coded_list coded_ℕ)

-- a digest set is stored as its values
abbrev pub digest_set_code : Coded DigestSet
digest_set_code =
    code_by (Option (List ℕ) × (Option (List ℕ) × Option (List ℕ)))
    (coded× value_code (coded× value_code value_code))
    (λ set. (set.sha256, (set.sha384, set.sha512)))
    (λ p. record { sha256 = p.0; sha384 = p.1.0; sha512 = p.1.1 }) (λ _. refl)

-- the set with this digest under an algorithm, and no other
abbrev pub only : Algorithm → List ℕ → DigestSet
only in_sha256 digest = record { sha256 = Some digest; sha384 = None; sha512 = None }
only in_sha384 digest = record { sha256 = None; sha384 = Some digest; sha512 = None }
only in_sha512 digest = record { sha256 = None; sha384 = None; sha512 = Some digest }

-- the set without a digest
abbrev pub no_digests : DigestSet
no_digests = record { sha256 = None; sha384 = None; sha512 = None }
