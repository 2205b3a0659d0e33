use Rattle.std.proofs.Common.{ap, ◌∙◌}
use Rattle.std.proofs.lemmas.Str.{IsCharBoundary-at_seam}
use Rattle.std.specs.List.{slice_range}
use Rattle.it_glob.proofs.Fronts.{split_at_front, slice_range-front}
use Rattle.it_glob.proofs.front.front_of_text.Goals as goal

pub range-requires-clause-end_boundary : goal.range-requires-clause-end_boundary
range-requires-clause-end_boundary c =
    let parts = split_at_front c.args.text.now c.utf8.text in
    rw c.requires (IsCharBoundary-at_seam _ _ parts.0 parts.2 parts.1)

pub returns : goal.returns
returns c =
    let parts = split_at_front c.args.text.now c.utf8.text in
    c.range.ensures.value ∙ ap (slice_range c.args.text.now 0) c.requires ∙ slice_range-front _ _ parts.0 parts.2
