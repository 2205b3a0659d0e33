-- When two digest sets are equal, as a test (this profile's choice).
use Rattle.std.specs.Prelude.{ℕ, List, Bool, ◌&&◌, Option, bytes_eq}
use Rattle.std.specs.Option.{option_eq}
use Rattle.std.specs.Cmp.{IsPartialEquivalence, and_per, on_per, partial_equiv_from_equiv}
use Rattle.std.specs.Cmp.Lexicographic.{nat_list_eq_equiv, options_equiv}
use Rattle.it_digest.specs.declared.compare.DigestSet.{DigestSet}

-- whether two sets have the same under an algorithm
abbrev pub same_value : Option (List ℕ) → Option (List ℕ) → Bool
same_value x y = option_eq bytes_eq x y

-- whether they have the same under each
abbrev pub same_set : DigestSet → DigestSet → Bool
same_set a b =
    same_value a.sha256 b.sha256
    && (same_value a.sha384 b.sha384 && same_value a.sha512 b.sha512)

same_value_partial_equivalence : IsPartialEquivalence same_value
same_value_partial_equivalence = partial_equiv_from_equiv (options_equiv nat_list_eq_equiv)

-- it holds both ways round, and along a chain
pub same_set_partial_equivalence : IsPartialEquivalence same_set
same_set_partial_equivalence =
    and_per (on_per (λ (s : DigestSet). s.sha256) same_value_partial_equivalence)
    (and_per (on_per (λ (s : DigestSet). s.sha384) same_value_partial_equivalence)
    (on_per (λ (s : DigestSet). s.sha512) same_value_partial_equivalence))
