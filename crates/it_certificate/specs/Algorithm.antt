-- The algorithm of a certificate's signature (RFC 5758, section 3.2): ECDSA with SHA-256 or with
-- SHA-384, and no other (this profile's choice).
use Rattle.std.specs.Prelude.{ℕ, List, [], ◌∷◌}
use Rattle.it_certificate.specs.declared.algorithm.Algorithm.{Algorithm}
use Rattle.it_certificate.specs.declared.algorithm.Algorithm.TheVariants.{WithSha256, WithSha384}

-- the content of an AlgorithmIdentifier: an identifier, and no parameters
abbrev pub algorithm_content : Algorithm → List ℕ
algorithm_content WithSha256 =
    6 ∷ 8 ∷ 42 ∷ 134 ∷ 72 ∷ 206 ∷ 61 ∷ 4 ∷ 3 ∷ 2 ∷ []
algorithm_content WithSha384 =
    6 ∷ 8 ∷ 42 ∷ 134 ∷ 72 ∷ 206 ∷ 61 ∷ 4 ∷ 3 ∷ 3 ∷ []
