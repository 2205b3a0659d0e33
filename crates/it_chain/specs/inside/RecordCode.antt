-- The code of `Recorded`. Nothing here is trusted.
use Rattle.std.specs.Prelude.{refl}
use Rattle.std.specs.Coded.{Coded, code_by, coded×, coded_ℕ, coded_list}
use Rattle.std.specs.FinMap as finite
use Rattle.it_digest.specs.Artifacts.{ArtifactMap}
use Rattle.it_digest.specs.DigestSet.{digest_set_code}
use Rattle.it_rules.specs.Item.{Recorded}

abbrev artifacts_code : Coded ArtifactMap
artifacts_code = finite.code (coded_list coded_ℕ) digest_set_code

abbrev pub recorded_code : Coded Recorded
recorded_code =
    code_by (ArtifactMap × ArtifactMap) (coded× artifacts_code artifacts_code)
    (λ r. (r.materials, r.products)) (λ p. record { materials = p.0; products = p.1 }) (λ _. refl)
