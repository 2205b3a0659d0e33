-- The versions of bundles (Sigstore's `Bundle`, its `media_type`).
use Rattle.std.specs.Prelude.{◌≡◌, ◌⊎◌, ℕ, List, MatchOption, codes}
use Rattle.serde_json.specs.Data.{Data}
use Rattle.serde_json.specs.Find.{as_str}
use Rattle.it_bundle.specs.declared.version.BundleVersion.{BundleVersion}
use Rattle.it_bundle.specs.declared.version.BundleVersion.TheVariants.{V1, V2, V3}

-- the media types of each version; the last one has an older form and a newer
abbrev pub IsMediaType : List ℕ → BundleVersion → Type 0
IsMediaType text V1 = text ≡ codes "application/vnd.dev.sigstore.bundle+json;version=0.1"
IsMediaType text V2 = text ≡ codes "application/vnd.dev.sigstore.bundle+json;version=0.2"
IsMediaType text V3 =
    (text ≡ codes "application/vnd.dev.sigstore.bundle+json;version=0.3")
    ⊎ (text ≡ codes "application/vnd.dev.sigstore.bundle.v0.3+json")

-- the part is a media type of this version
abbrev pub IsVersion : Data → BundleVersion → Type 0
IsVersion d version = MatchOption (as_str d) ⊥ (λ text. IsMediaType text version)
