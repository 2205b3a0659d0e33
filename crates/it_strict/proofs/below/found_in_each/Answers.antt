use Rattle.std.proofs.Common.{◌≡◌, ◌∷◌, [], ◌∙◌, append_assoc}
use Rattle.std.specs.Vec.Iter.{into_iter_items}
use Rattle.std.proofs.lemmas.Slice.Zip.{all_zipped_more}
use Rattle.it_strict.specs.Below.{IsFoundBelow}
use Rattle.it_strict.proofs.below.found_in_each.Goals as goal

pub loop-sublayout-preserved : goal.loop-sublayout-preserved
loop-sublayout-preserved c =
    let at = c.loop-sublayout in
    let sublayout = c.in-Some.sublayout in
    let steps : into_iter_items at.sublayout-iterator
    ≡ sublayout ∷ into_iter_items c.next.new.self = c.in-Some.ensures.steps.0 in
    record {
      given = append_assoc at.yielded (sublayout ∷ []) _ ∙ rw (← steps) at.invariant.given;
      found = rw c.in_ok-push.ensures.items
          (all_zipped_more IsFoundBelow at.yielded at.found.items sublayout
          c.in_ok-found_in_one.field-0 at.invariant.found c.in_ok-found_in_one.ensures);
    }
