-- The value of the extension of key usage (RFC 5280, section 4.2.1.3).
use Rattle.std.specs.Prelude.{◌≡◌, ℕ, ◌/◌, ◌%◌, ◌^◌, ◌<◌, ◌==◌, List, [], ◌∷◌}
use Rattle.it_certificate.specs.Within.{Wraps}
use Rattle.it_certificate.specs.declared.usage.Usage.{Usage}

-- the bits that do not count are 0, and the last one that counts is 1, since no zeros stand at the
-- end of named bits (X.690, section 11.2). The bit of digitalSignature is the first, and that of
-- keyCertSign the sixth; a byte has the first bit highest
pub record AreUsageBits (unused first last : ℕ) (u : Usage) : Type 0 where
  pub few : unused < 8
  pub zeros : last % 2 ^ unused ≡ 0
  pub shortest : last / 2 ^ unused % 2 ≡ 1
  pub signs : u.signs ≡ (first / 128 % 2 == 1)
  pub signs_certificates : u.signs_certificates ≡ (first / 4 % 2 == 1)

-- the content of a BIT STRING: how many bits of the last byte do not count, and one or two bytes of
-- bits, since nine bits have a meaning
abbrev pub IsUsageContent : List ℕ → Usage → Type 0
IsUsageContent [] u = ⊥
IsUsageContent (unused ∷ []) u = ⊥
IsUsageContent (unused ∷ bits ∷ []) u = AreUsageBits unused bits bits u
IsUsageContent (unused ∷ bits ∷ more ∷ []) u = AreUsageBits unused bits more u
IsUsageContent (unused ∷ bits ∷ more ∷ others ∷ rest) u = ⊥

-- the value is this usage
abbrev pub IsUsage : List ℕ → Usage → Type 0
IsUsage = Wraps 3 IsUsageContent
