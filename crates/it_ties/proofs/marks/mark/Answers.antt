use Rattle.std.proofs.Common.{◌<◌, ◌∙◌, [], arith, get_or, length, sym, true≢false}
use Rattle.std.proofs.lemmas.Option.{slice_get-get_or}
use Rattle.it_docs.specs.declared.rule.Side.TheVariants.{Products}
use Rattle.it_rules.specs.Item.{links_of, recorded_of}
use Rattle.it_ties.proofs.Marking.{all_marked, begins, left_as_is, marked}
use Rattle.it_ties.proofs.marks.mark.Goals as goal
use Rattle.it_ties.proofs.marks.mark.Goals.{then-branch, else-branch}

pub loop-place-init : goal.loop-place-init
loop-place-init c =
    let item = recorded_of c.args.tying.now.item.now in
    let links = links_of c.args.tying.now.links.now in
    let range = c.in_ok-start.ensures Products item links in
    record {
      within = range.within;
      marking = begins c.args.tying.now.steps.now item links c.args.paths.now c.args.rule.now
          c.args.tied.now c.in_ok-start.start c.in_ok-start.end range;
    }

pub loop-place-preserved : goal.loop-place-preserved
loop-place-preserved c =
    let steps = c.args.tying.now.steps.now in
    let item = recorded_of c.args.tying.now.item.now in
    let links = links_of c.args.tying.now.links.now in
    let paths = c.args.paths.now in
    let place = c.loop-place.place in
    let within : place < length paths = omega arith in
    let path = get_or paths place (record { ref_ptr = (0, 0); now = [] }) in
    let here = slice_get-get_or paths place (record { ref_ptr = (0, 0); now = [] }) within in
    let same = c.looked_at-looked.ensures.same Products item path.now in
    record {
      within = c.loop-place.invariant.within;
      marking = elim c.if-branch.branch [
        | then-branch w ↦ rw w.tied-is (marked steps item links paths c.args.rule.now
            c.args.tied.now c.loop-place.tied place path here c.loop-place.invariant.marking
            c.ties-is_tying.result (omega arith)
            (same.0 (c.in_ok-claims.ensures.0 w.if-branch.true)) c.ties-is_tying.ensures)
        | else-branch w ↦ rw w.tied-is (left_as_is steps item links paths c.args.rule.now
            c.args.tied.now c.loop-place.tied place path here c.loop-place.invariant.marking
            (λ claimed. true≢false (sym (c.in_ok-claims.ensures.1 (same.1 claimed))
            ∙ w.if-branch.false)))
      ];
    }

pub returns : goal.returns
returns c =
    let item = recorded_of c.args.tying.now.item.now in
    let links = links_of c.args.tying.now.links.now in
    all_marked c.args.tying.now.steps.now item links c.args.paths.now c.args.rule.now
    c.args.tied.now c.loop-place.tied c.loop-place.place c.in_ok-start.start c.in_ok-start.end
    (c.in_ok-start.ensures Products item links) (omega arith) c.loop-place.invariant.marking
