use Rattle.std.proofs.Common.{Bor, List, subst, ℕ}
use Rattle.std.specs.Str.{IsUtf8}
use Rattle.std.proofs.lemmas.Option.{get_or_from_slice_get, slice_get_within}
use Rattle.it_prov.specs.Fits.{SpeaksOf}
use Rattle.it_unused.proofs.Lending.{any_in_part}
use Rattle.it_unused.proofs.paths.speaks_of_some.Goals as goal

pub returns : goal.returns
returns c =
    let paths = c.args.paths.now in
    let range = c.front_range-start.ensures in
    any_in_part (λ (path : Bor (List ℕ)). SpeaksOf path.now c.args.expectation.now) paths
    c.front_range-start.result.0 c.front_range-start.result.1 range.start_first range.within
    c.matches_some.result
    (λ i path here speaks. (range.exact i path here).0
    (c.literal_front.ensures.begins path.now
    (subst (λ (lent : Bor (List ℕ)). IsUtf8 lent.now) (get_or_from_slice_get paths i path path here)
    (c.requires.are_texts i path (slice_get_within paths i path here))) speaks))
    c.matches_some.ensures
