-- The comparison of two digest sets (this profile's choice, stricter than in-toto Attestation v1).
use Rattle.std.specs.Prelude.{◌≡◌, ◌≢◌, ℕ, if◌then◌else◌, List, [], ◌∷◌, Option, Some, None}
use Rattle.std.specs.Str.{bytes_eq}
use Rattle.it_digest.specs.declared.compare.DigestSet.{DigestSet}
use Rattle.it_digest.specs.declared.compare.Compare.{Compare}
use Rattle.it_digest.specs.declared.compare.Compare.TheVariants.{Agree as agree, Differ as differ}
use Rattle.it_digest.specs.declared.compare.Compare.TheVariants.{Apart as apart}
use Rattle.it_digest.specs.DigestSet.{Algorithm, algorithms, value_in}

-- an algorithm is in both sets, with these values
pub record StandsInBoth (a b : DigestSet) (algorithm : Algorithm) (in_a in_b : List ℕ)
    : Type 0 where
  pub first : value_in algorithm a ≡ Some in_a
  pub second : value_in algorithm b ≡ Some in_b

-- some algorithm is in both sets, with unequal values
pub record Differ (a b : DigestSet) : Type 0 where
  pub algorithm : Algorithm
  pub in_a : List ℕ
  pub in_b : List ℕ
  pub in_both : StandsInBoth a b algorithm in_a in_b
  pub unequal : in_a ≢ in_b

-- some algorithm is in both sets, and the sets do not differ
pub record Agree (a b : DigestSet) : Type 0 where
  pub algorithm : Algorithm
  pub in_a : List ℕ
  pub in_b : List ℕ
  pub in_both : StandsInBoth a b algorithm in_a in_b
  pub no_difference : ¬ Differ a b

-- the two sets neither agree nor differ
pub record Apart (a b : DigestSet) : Type 0 where
  pub no_agreement : ¬ Agree a b
  pub no_difference : ¬ Differ a b

-- what the values under one algorithm say
abbrev pub compared_values : Option (List ℕ) → Option (List ℕ) → Compare
compared_values (Some x) (Some y) = if bytes_eq x y then agree else differ
compared_values (Some x) None = apart
compared_values None y = apart

-- what two algorithms say together
abbrev pub joined : Compare → Compare → Compare
joined differ y = differ
joined agree agree = agree
joined agree differ = differ
joined agree apart = agree
joined apart y = y

-- what some algorithms say together
abbrev pub compared_under : List Algorithm → DigestSet → DigestSet → Compare
compared_under [] a b = apart
compared_under (h ∷ rest) a b =
    joined (compared_values (value_in h a) (value_in h b)) (compared_under rest a b)

-- the comparison of two digest sets
abbrev pub compared : DigestSet → DigestSet → Compare
compared a b = compared_under algorithms a b
