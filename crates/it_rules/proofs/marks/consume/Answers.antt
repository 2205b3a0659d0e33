use Rattle.std.proofs.Common.{◌<◌, ◌∙◌, [], length, get_or, arith, true≢false, sym}
use Rattle.std.proofs.lemmas.Option.{slice_get-get_or}
use Rattle.it_rules.specs.Item.{links_of, recorded_of}
use Rattle.it_rules.specs.Rules.{Claims}
use Rattle.it_rules.proofs.Marking.{all_marked, begins, left_as_is, marked}
use Rattle.it_rules.proofs.marks.consume.Goals as goal
use Rattle.it_rules.proofs.marks.consume.Goals.{then-not-marks-place+in_ok-claims_artifact+then-branch}
use Rattle.it_rules.proofs.marks.consume.Goals.{else-not-marks-place}
use Rattle.it_rules.proofs.marks.consume.Goals.{
  else-not-marks-place-via-then-not-marks-place+in_ok-claims_artifact+else-branch,
}
use Rattle.it_rules.proofs.marks.consume.Goals.{else-not-marks-place-via-else-not-marks-place}

pub loop-place-init : goal.loop-place-init
loop-place-init c =
    let range = c.in_ok-start.ensures c.args.subject.now.side (recorded_of c.args.subject.now.item.now)
    (links_of c.args.subject.now.links.now) in
    record {
      within = range.within;
      marking = begins (Claims c.args.rule.now c.args.subject.now.side (recorded_of c.args.subject.now.item.now)
          (links_of c.args.subject.now.links.now)) c.args.paths.now c.args.marks.now _ _ range;
    }

pub loop-place-preserved : goal.loop-place-preserved
loop-place-preserved c =
    let IsClaimed = Claims c.args.rule.now c.args.subject.now.side (recorded_of c.args.subject.now.item.now)
    (links_of c.args.subject.now.links.now) in
    let paths = c.args.paths.now in
    let place = c.loop-place.place in
    let within : place < length paths = omega arith in
    let path = get_or paths place (record { ref_ptr = (0, 0); now = [] }) in
    let here = slice_get-get_or paths place (record { ref_ptr = (0, 0); now = [] }) within in
    let same = c.looked_at-looked.ensures.same c.args.subject.now.side (recorded_of c.args.subject.now.item.now) in
    record {
      within = c.loop-place.invariant.within;
      marking = elim c.if-not-marks-place.branch [
        | then-not-marks-place+in_ok-claims_artifact+then-branch w ↦
            rw w.marks-is (marked IsClaimed paths c.args.marks.now c.loop-place.marks place path
            (omega arith) here ((same path.now).0 (w.in_ok-claims_artifact.ensures.0 w.if-branch.true))
            c.loop-place.invariant.marking)
        | else-not-marks-place w ↦
            rw w.marks-is (left_as_is IsClaimed paths c.args.marks.now c.loop-place.marks place path
            here
            (elim w.else-not-marks-place.branch [
              | else-not-marks-place-via-then-not-marks-place+in_ok-claims_artifact+else-branch v ↦ λ u
                  claimed. true≢false (sym (v.in_ok-claims_artifact.ensures.1 ((same path.now).1 claimed))
                  ∙ v.if-branch.false)
              | else-not-marks-place-via-else-not-marks-place v ↦ λ u claimed. true≢false
                  (sym v.if-not-marks-place.false ∙ u)
            ])
            c.loop-place.invariant.marking)
      ];
    }

pub returns : goal.returns
returns c =
    let range = c.in_ok-start.ensures c.args.subject.now.side (recorded_of c.args.subject.now.item.now)
    (links_of c.args.subject.now.links.now) in
    all_marked (Claims c.args.rule.now c.args.subject.now.side (recorded_of c.args.subject.now.item.now)
    (links_of c.args.subject.now.links.now)) c.args.paths.now c.args.marks.now c.loop-place.marks
    c.loop-place.place c.in_ok-start.start c.in_ok-start.end range
    (omega arith) c.loop-place.invariant.marking
