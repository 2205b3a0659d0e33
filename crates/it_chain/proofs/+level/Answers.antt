use Rattle.std.proofs.Common.{IfOk, ◌≡◌, ◌∙◌, ◌<ℤ◌, ◌-◌, suc, [], ◌∷◌, Option, None, Some}
use Rattle.std.proofs.Common.{Contains, map, Err, flat_map, rules, refl, sym, ap}
use Rattle.std.proofs.Common.{subst, length, take, take_all, arith}
use Rattle.it_dsse.specs.Meter.{raised}
use Rattle.std.specs.FinMap.{keys}
use Rattle.std.specs.List.{cons_option}
use Rattle.std.proofs.lemmas.List.Elements.{Contains-get_or}
use Rattle.std.proofs.lemmas.Result.{IfOk-weaker, err_from_is_err_and}
use Rattle.it_base.proofs.Elements.{zip_more}
use Rattle.it_chain.specs.Answered.{AreWithin, answer_at}
use Rattle.it_chain.specs.Chain.{holds_below}
use Rattle.it_chain.specs.Cost.{cost_below}
use Rattle.it_chain.specs.Fewest.{fewest_below}
use Rattle.it_chain.specs.Raised.{RaisedAtLeast, RaisedWithin}
use Rattle.it_chain.specs.inside.Asked.{RecordsFewest, SignaturesIn, key_total, least_given}
use Rattle.it_chain.specs.Answer.{signers as signers_of, with_record}
use Rattle.it_chain.specs.Contents.{files_of}
use Rattle.it_chain.specs.Cost.{StepCosts}
use Rattle.it_chain.specs.Fewest.{StepFewest}
use Rattle.it_chain.specs.Sublayouts.{folder_name, folder_of}
use Rattle.it_chain.specs.First.{step_places, at_id, at_records, at_threshold, here}
use Rattle.it_chain.specs.Level.{StepHolds}
use Rattle.it_chain.specs.Signers.{entry_of}
use Rattle.it_chain.specs.Body.{as_body}
use Rattle.it_chain.specs.inside.Candidates.{AreCandidates}
use Rattle.it_chain.specs.inside.Walks.{FailsAt}
use Rattle.it_chain.specs.inside.Below.{StandsAt, fails_below}
use Rattle.it_chain.specs.declared.record.IdRecord.{IdRecord}
use Rattle.it_chain.specs.declared.refusal.ChainError.TheVariants.{Refused}
use Rattle.it_chain.specs.declared.refusal.ChainFault.TheVariants.{TwoPayloads}
use Rattle.it_chain.proofs.AnswersOver.{given_answers, kept_if_within, taken_within}
use Rattle.it_chain.proofs.AnswersOver.{within_above, within_below}
use Rattle.it_chain.proofs.Asking.{least_more, least_none, least_of, within_least, within_none}
use Rattle.it_chain.proofs.LevelAsking.{LevelSum, SignersSum, below_asks, candidates_raise}
use Rattle.it_chain.proofs.LevelAsking.{record_asks, settled_asks, signer_fails, signer_more}
use Rattle.it_chain.proofs.LevelAsking.{step_asks, step_fails, step_more, step_raises}
use Rattle.it_chain.proofs.LevelFewest.{FewestSum, below_takes, given_more, one_fewest_below}
use Rattle.it_chain.proofs.LevelFewest.{record_takes, some_fewest_below, step_takes}
use Rattle.it_chain.proofs.LevelWalks.{level_judged, steps_fail}
use Rattle.it_chain.proofs.LevelRules.{links_differ}
use Rattle.it_chain.proofs.Reused.{anew, anew_asks, anew_fails, none_recalled, of_summarized}
use Rattle.it_chain.proofs.Reused.{recalled}
use Rattle.it_chain.proofs.StepWalks.{judged_walks}
use Rattle.it_chain.proofs.SignerWalks.{AreWalked, signer_known, signer_listed, walked_all}
use Rattle.it_chain.proofs.SignerWalks.{walked_fail, walked_more, walked_none}
use Rattle.it_chain.proofs.Walks.{level_below, nil_of, not_when, fails_before, fails_at}
use Rattle.it_chain.proofs.Walks.{none_counts, none_more, one_counts, one_below, apart_below}
use Rattle.it_chain.proofs.Walks.{two_count, walks_behind, walks_given, walks_record, walks_two}
use Rattle.it_chain.specs.declared.body.Body.TheVariants.{Layout as held_layout}
use Rattle.it_chain.specs.inside.Scope.{BodyAnswers, BodyCost, LevelAnswers, LevelAsks}
use Rattle.it_chain.specs.inside.Scope.{LevelTakes, scope_of}
use Rattle.it_chain.proofs.+level.Goals as goal

pushed_record : (given : Option IdRecord) → cons_option given [] ≡ with_record given []
pushed_record None = refl
pushed_record (Some r) = refl

pub id_records::verify_id-returns-in-One-clause-answer : goal.id_records::verify_id-returns-in-One-clause-answer
id_records::verify_id-returns-in-One-clause-answer g t c =
    let s = g.C.Checking.setting c.args.walk.now.checking.now in
    let l = c.args.walk.now.level in
    let one = one_counts (holds_below s l.depth) (fails_below s l.depth) s l.layout.now l.links.now
    c.args.at.now.step.now c.args.signer.now.id.now c.args.signer.now.object.now c.args.at.now.found
    c.requires.candidates c.requires.listed c.requires.known
    c.in-One.found
    (rw (c.in-One.is, c.as_str-name.ensures) at c.in_ok-counted.ensures.answer) in
    walks_record s l.depth l.layout.now l.links.now c.args.at.now.step.now c.args.signer.now.id.now
    c.in-One.found.key (as_body c.in-One.found.body) one c.verify_body-recorded.result
    c.record_of.result
    (rw c.as_str-name.ensures at c.verify_body-recorded.ensures.answer) c.record_of.ensures

pub id_records::verify_id-returns-in-Nothing-clause-answer : goal.id_records::verify_id-returns-in-Nothing-clause-answer
id_records::verify_id-returns-in-Nothing-clause-answer g t c =
    let s = g.C.Checking.setting c.args.walk.now.checking.now in
    let l = c.args.walk.now.level in
    walks_given s l.depth l.layout.now l.links.now c.args.at.now.step.now c.args.signer.now.id.now None
    (none_counts (holds_below s l.depth) (fails_below s l.depth) s l.layout.now l.links.now
    c.args.at.now.step.now c.args.signer.now.id.now c.args.signer.now.object.now c.args.at.now.found
    c.requires.candidates c.requires.listed c.requires.known
    (rw (c.in-Nothing.is, c.as_str-name.ensures) at c.in_ok-counted.ensures.answer))

pub id_records::verify_id-returns-in_ok-copy-in-Several-2-clause-answer : goal.id_records::verify_id-returns-in_ok-copy-in-Several-2-clause-answer
id_records::verify_id-returns-in_ok-copy-in-Several-2-clause-answer g t c =
    let s = g.C.Checking.setting c.args.walk.now.checking.now in
    let l = c.args.walk.now.level in
    let name : c.in_ok-copy-in-Several.field-0 ≡ c.args.at.now.step.now.name =
    c.in_ok-copy-in-Several.ensures ∙ c.as_str-name.ensures in
    let id : c.in_ok-copy-in-Several-2.field-0 ≡ c.args.signer.now.id.now =
    c.in_ok-copy-in-Several-2.ensures in
    walks_two s l.depth l.layout.now l.links.now c.args.at.now.step.now c.args.signer.now.id.now
    c.refused.result
    (two_count (holds_below s l.depth) (fails_below s l.depth) s l.layout.now l.links.now
    c.args.at.now.step.now c.args.signer.now.id.now c.args.signer.now.object.now c.args.at.now.found
    c.requires.candidates c.requires.listed c.requires.known
    (rw (c.in-Several.is, c.as_str-name.ensures) at c.in_ok-counted.ensures.answer))
    (c.refused.ensures ∙ (λ k. Refused (here (TwoPayloads (name k) (id k)))))

pub id_records::verify_ids-returns-in_err-record-clause-answer : goal.id_records::verify_ids-returns-in_err-record-clause-answer
id_records::verify_ids-returns-in_err-record-clause-answer g t c =
    let s = g.C.Checking.setting c.args.walk.now.checking.now in
    let v = c.args.walk.now.level in
    let p = err_from_is_err_and c.from_residual.result c.from_residual.ensures.1 in
    rw (p.1, p.2) (walked_fail s v.depth v.layout.now v.links.now c.args.at.now.step.now c.args.signers.now
    c.loop-signer.signer-index c.signer-item.result c.loop-signer.records.items
    c.loop-signer-test.true c.signer-item.is c.loop-signer.invariant.walked
    c.in_err-record.field-0.0 c.requires.signers c.in_err-record.ensures.answer)

pub id_records::verify_ids-loop-signer-init : goal.id_records::verify_ids-loop-signer-init
id_records::verify_ids-loop-signer-init g t c =
    let v = c.args.walk.now.level in
    let s = g.C.Checking.setting c.args.walk.now.checking.now in
    rw c.new-records.ensures.items
    (record {
      walked = walked_none s v.depth v.layout.now v.links.now c.args.at.now.step.now;
      asked = within_none (SignersSum s v.depth v.layout.now v.links.now c.args.at.now.step.now
          c.args.at.now.found []) c.args.meter.now c.args.meter.now refl;
      fewest = least_none (RecordsFewest (fewest_below s v.depth) s v.layout.now v.links.now
          c.args.at.now.step.now []) c.args.meter.now c.args.meter.now (λ n h. h) refl;
      answers = c.requires.answers;
    })

pub id_records::verify_ids-verify_id-requires : goal.id_records::verify_ids-verify_id-requires
id_records::verify_ids-verify_id-requires g t c κs within =
    let all = c.args.signers.now in
    let signer = c.signer-item.result in
    let stands : Contains all signer = subst (Contains all) (sym c.signer-item.is)
    (Contains-get_or all c.loop-signer.signer-index signer c.loop-signer-test.true) in (
      search rules,
      (
        search rules,
        (
          c.requires.shallow,
          (
            c.requires.candidates,
            (
              signer_listed c.args.walk.now.level.layout.now c.args.at.now.step.now all c.requires.signers
                  signer
                  stands,
              (
                signer_known c.args.walk.now.level.layout.now c.args.at.now.step.now all
                    c.requires.signers signer stands,
                c.loop-signer.invariant.answers,
              ),
            ),
          ),
        ),
      ),
    )

pub id_records::verify_ids-loop-signer-preserved : goal.id_records::verify_ids-loop-signer-preserved
id_records::verify_ids-loop-signer-preserved g t c =
    let s = g.C.Checking.setting c.args.walk.now.checking.now in
    let v = c.args.walk.now.level in
    let step = c.args.at.now.step.now in
    let found = c.args.signers.now in
    let i = c.loop-signer.signer-index in
    let signer = c.signer-item.result in
    let records = c.loop-signer.records.items in
    let given = c.in_ok-record.record in
    rw (c.in_ok-push_some.ensures, pushed_record given)
    (record {
      walked = walked_more s v.depth v.layout.now v.links.now step found i signer records
          c.loop-signer-test.true c.signer-item.is c.loop-signer.invariant.walked given
          c.in_ok-record.ensures.answer.0 c.in_ok-record.ensures.answer.1;
      asked = signer_more s v.depth v.layout.now v.links.now c.args.meter.now c.loop-signer.meter
          c.verify_id.new.meter i step c.args.at.now.found found signer records c.loop-signer-test.true
          c.signer-item.is c.loop-signer.invariant.asked given c.in_ok-record.ensures.asked;
      fewest = given_more (fewest_below s v.depth) (one_fewest_below s v.depth)
          (some_fewest_below s v.depth) (holds_below s v.depth) s v.layout.now v.links.now step
          given records c.args.meter.now c.loop-signer.meter c.verify_id.new.meter
          c.loop-signer.invariant.fewest c.in_ok-record.ensures.fewest;
      answers = c.in_ok-record.ensures.answers;
    })

pub id_records::verify_ids-returns-in_err-record-clause-asked : goal.id_records::verify_ids-returns-in_err-record-clause-asked
id_records::verify_ids-returns-in_err-record-clause-asked g t c =
    let s = g.C.Checking.setting c.args.walk.now.checking.now in
    let v = c.args.walk.now.level in
    let p = err_from_is_err_and c.from_residual.result c.from_residual.ensures.1 in
    rw p.1 (signer_fails s v.depth v.layout.now v.links.now c.args.meter.now c.loop-signer.meter
    c.verify_id.new.meter c.loop-signer.signer-index c.args.at.now.step.now c.args.at.now.found
    c.args.signers.now c.signer-item.result c.loop-signer.records.items
    c.loop-signer-test.true c.signer-item.is c.loop-signer.invariant.asked 0
    c.in_err-record.ensures.asked)

pub id_records::verify_ids-returns-in_err-push_some-clause-asked : goal.id_records::verify_ids-returns-in_err-push_some-clause-asked
id_records::verify_ids-returns-in_err-push_some-clause-asked g t c =
    let s = g.C.Checking.setting c.args.walk.now.checking.now in
    let v = c.args.walk.now.level in
    let p = err_from_is_err_and c.from_residual-in_err-push_some.result
    c.from_residual-in_err-push_some.ensures.1 in
    rw p.1 (signer_fails s v.depth v.layout.now v.links.now c.args.meter.now c.loop-signer.meter
    c.verify_id.new.meter c.loop-signer.signer-index c.args.at.now.step.now c.args.at.now.found
    c.args.signers.now c.signer-item.result c.loop-signer.records.items
    c.loop-signer-test.true c.signer-item.is c.loop-signer.invariant.asked
    (least_given c.in_ok-record.record) c.in_ok-record.ensures.asked)

pub id_records::verify_ids-returns-clause-asked : goal.id_records::verify_ids-returns-clause-asked
id_records::verify_ids-returns-clause-asked g t c =
    let s = g.C.Checking.setting c.args.walk.now.checking.now in
    let v = c.args.walk.now.level in
    let found = c.args.signers.now in
    let all : take c.loop-signer.signer-index found ≡ found =
    take_all c.loop-signer.signer-index found (omega arith) in
    subst (λ ss. RaisedWithin (length c.loop-signer.records.items)
    (SignersSum s v.depth v.layout.now v.links.now c.args.at.now.step.now c.args.at.now.found ss)
    c.args.meter.now c.loop-signer.meter) all c.loop-signer.invariant.asked

pub id_records::verify_ids-returns-clause-answer : goal.id_records::verify_ids-returns-clause-answer
id_records::verify_ids-returns-clause-answer g t c =
    let s = g.C.Checking.setting c.args.walk.now.checking.now in
    let v = c.args.walk.now.level in
    let found = c.args.signers.now in
    let all : take c.loop-signer.signer-index found ≡ found =
    take_all c.loop-signer.signer-index found (omega arith) in
    walked_all s v.depth v.layout.now v.links.now c.args.at.now.step.now found c.loop-signer.records.items
    c.requires.signers
    (subst (λ ss. AreWalked s v.depth v.layout.now v.links.now c.args.at.now.step.now ss
    c.loop-signer.records.items) all c.loop-signer.invariant.walked)

pub level::judge_level-returns-in_err-steps-clause-answer : goal.level::judge_level-returns-in_err-steps-clause-answer
level::judge_level-returns-in_err-steps-clause-answer g t c =
    let s = g.C.Checking.setting c.args.walk.now.checking.now in
    let v = c.args.walk.now.level in
    let in_time : ¬ (v.layout.now.expires <ℤ s.moment) =
    not_when c.is_expired.result (v.layout.now.expires <ℤ s.moment) c.is_expired.ensures
    c.if-is_expired.false in
    let p = err_from_is_err_and c.from_residual-in_err-steps.result
    c.from_residual-in_err-steps.ensures.1 in
    rw (p.1, p.2) (steps_fail (holds_below s v.depth) (fails_below s v.depth) (one_below s v.depth)
    (apart_below s v.depth) s v.layout.now v.links.now c.in_err-steps.field-0.0 in_time
    c.in_err-steps.ensures.answer)

pub level::judge_level-first_failed-requires : goal.level::judge_level-first_failed-requires
level::judge_level-first_failed-requires g t c =
    let s = g.C.Checking.setting c.args.walk.now.checking.now in
    let v = c.args.walk.now.level in
    rw c.as_slice-2.ensures.value (links_differ (holds_below s v.depth) (fails_below s v.depth)
    (one_below s v.depth) s v.layout.now v.links.now c.in_ok-steps.steps.items
    c.in_ok-steps.ensures.answer.1)

pub level::judge_level-returns-clause-answer : goal.level::judge_level-returns-clause-answer
level::judge_level-returns-clause-answer g t c =
    let s = g.C.Checking.setting c.args.walk.now.checking.now in
    let v = c.args.walk.now.level in
    let in_time : ¬ (v.layout.now.expires <ℤ s.moment) =
    not_when c.is_expired.result (v.layout.now.expires <ℤ s.moment) c.is_expired.ensures
    c.if-is_expired.false in
    rw c.from-steps.ensures (level_judged (holds_below s v.depth) (fails_below s v.depth)
    (one_below s v.depth) (apart_below s v.depth) s v.layout.now v.links.now
    c.in_ok-steps.steps.items c.in_ok-steps.ensures.answer.1 c.in_ok-failed.failed in_time
    c.in_ok-steps.ensures.answer.0
    (rw (c.as_slice.ensures, c.as_slice-2.ensures.value) at c.in_ok-failed.ensures))

pub level::verify_level-returns-clause-answer : goal.level::verify_level-returns-clause-answer
level::verify_level-returns-clause-answer g t c = rw c.settled.ensures
    c.in_ok-judge_level.ensures.answer

pub level::verify_step-returns-in_err-records-clause-answer : goal.level::verify_step-returns-in_err-records-clause-answer
level::verify_step-returns-in_err-records-clause-answer g t c =
    let s = g.C.Checking.setting c.args.walk.now.checking.now in
    let l = c.args.walk.now.level in
    let step = c.args.step.now in
    let p = err_from_is_err_and c.from_residual-in_err-records.result
    c.from_residual-in_err-records.ensures.1 in
    rw (p.1, p.2) (fails_before (StandsAt s l.depth l.layout.now l.links.now)
    (map (at_id step) (keys l.layout.now.keys)) (at_threshold step ∷ at_records step ∷ [])
    c.in_err-records.field-0.0 c.in_err-records.ensures.answer)

pub level::verify_step-returns-clause-answer : goal.level::verify_step-returns-clause-answer
level::verify_step-returns-clause-answer g t c =
    let s = g.C.Checking.setting c.args.walk.now.checking.now in
    let v = c.args.walk.now.level in
    let step = c.args.step.now in
    walks_behind (StandsAt s v.depth v.layout.now v.links.now)
    (map (at_id step) (keys v.layout.now.keys)) (at_threshold step ∷ at_records step ∷ [])
    (StepHolds (holds_below s v.depth) s v.layout.now v.links.now step) c.judged.result
    c.in_ok-records.ensures.answer.0
    (judged_walks (holds_below s v.depth) (fails_below s v.depth) (one_below s v.depth) s
    v.layout.now v.links.now step c.in_ok-records.records.items c.in_ok-records.ensures.answer.1
    c.judged.result c.judged.ensures)

pub level::verify_steps-returns-in_err-verify_step-clause-answer : goal.level::verify_steps-returns-in_err-verify_step-clause-answer
level::verify_steps-returns-in_err-verify_step-clause-answer g t c =
    let s = g.C.Checking.setting c.args.walk.now.checking.now in
    let v = c.args.walk.now.level in
    let p = err_from_is_err_and c.from_residual.result c.from_residual.ensures.1 in
    rw (p.1, p.2) (subst (λ xs. FailsAt (StandsAt s v.depth v.layout.now v.links.now)
    (flat_map (step_places v.layout.now) xs) c.in_err-verify_step.field-0.0)
    c.as_slice-step-items.ensures (fails_at (StandsAt s v.depth v.layout.now v.links.now)
    (step_places v.layout.now) c.as_slice-step-items.result.now c.loop-step.step-index
    c.step-item.result c.in_err-verify_step.field-0.0 c.loop-step-test.true c.step-item.is
    c.loop-step.invariant.none c.in_err-verify_step.ensures.answer))

pub level::verify_steps-loop-step-preserved : goal.level::verify_steps-loop-step-preserved
level::verify_steps-loop-step-preserved g t c =
    let s = g.C.Checking.setting c.args.walk.now.checking.now in
    let v = c.args.walk.now.level in
    let steps = c.as_slice-step-items.result.now in
    let i = c.loop-step.step-index in
    let step = c.step-item.result in
    let result = c.in_ok-verify_step.field-0 in
    record {
      none = none_more (StandsAt s v.depth v.layout.now v.links.now) (step_places v.layout.now)
          steps i step c.loop-step-test.true c.step-item.is c.loop-step.invariant.none
          c.in_ok-verify_step.ensures.answer.0;
      hold = rw c.in_ok-push.ensures.items
          (zip_more (StepHolds (holds_below s v.depth) s v.layout.now v.links.now) steps i step
          c.loop-step.results.items result c.loop-step-test.true c.step-item.is
          c.loop-step.invariant.hold c.in_ok-verify_step.ensures.answer.1);
      fewest = least_more (StepFewest (fewest_below s v.depth) s v.layout.now v.links.now)
          c.args.meter.now c.loop-step.meter c.verify_step.new.meter steps i step
          c.loop-step-test.true c.step-item.is c.loop-step.invariant.fewest
          c.in_ok-verify_step.ensures.fewest;
      asked = rw c.in_ok-push.ensures.items
          (step_more s v.depth v.layout.now v.links.now c.args.meter.now c.loop-step.meter
          c.verify_step.new.meter i steps step c.loop-step.results.items result
          c.loop-step-test.true c.step-item.is c.loop-step.invariant.asked
          c.in_ok-verify_step.ensures.asked);
      answers = c.in_ok-verify_step.ensures.answers;
    }

pub sublayouts::verify_sublayout-returns-clause-answer : goal.sublayouts::verify_sublayout-returns-clause-answer
sublayouts::verify_sublayout-returns-clause-answer g t c =
    let s = g.C.Checking.setting c.args.walk.now.checking.now in
    let v = c.args.walk.now.level in
    let links = v.links.now in
    let bare : c.args.sublayout.now.inspections ≡ [] = sym c.as_slice.ensures
    ∙ nil_of c.as_slice.result.now (sym c.is_empty.ensures ∙ c.if-not-is_empty.false) in
    level_below s c.args.sublayout.now (folder_of c.args.at.now.step.now c.args.at.now.id.now links) v.depth
    (v.depth - 1) (omega (
      arith,
      not_when c.is_deepest.result (v.depth ≡ 0) c.is_deepest.ensures
          c.if-is_deepest.false,
    )) bare c.verify_level.result
    (subst (λ b. LevelAnswers (record {
      setting = s;
      depth = v.depth - 1;
      layout = c.args.sublayout.now;
      bundle = b;
    })
    c.verify_level.result) c.in_ok-folder.ensures c.verify_level.ensures.answer)

pub level::verify_steps-loop-step-init : goal.level::verify_steps-loop-step-init
level::verify_steps-loop-step-init g t c =
    let s = g.C.Checking.setting c.args.walk.now.checking.now in
    let v = c.args.walk.now.level in
    rw c.new-results.ensures.items (record {
      none = tt;
      hold = tt;
      asked = within_none (LevelSum s v.depth v.layout.now v.links.now [])
          c.args.meter.now c.args.meter.now refl;
      fewest =
          least_none (FewestSum s v.depth v.layout.now v.links.now []) c.args.meter.now
          c.args.meter.now (λ n h. h) refl;
      answers = c.requires.answers;
    })

pub level::verify_steps-returns-in_err-verify_step-clause-asked : goal.level::verify_steps-returns-in_err-verify_step-clause-asked
level::verify_steps-returns-in_err-verify_step-clause-asked g t c =
    let s = g.C.Checking.setting c.args.walk.now.checking.now in
    let v = c.args.walk.now.level in
    let p = err_from_is_err_and c.from_residual.result c.from_residual.ensures.1 in
    rw p.1 (subst (λ ss. RaisedWithin 0 (LevelSum s v.depth v.layout.now v.links.now ss)
    c.args.meter.now c.verify_step.new.meter) c.as_slice-step-items.ensures
    (step_fails s v.depth v.layout.now v.links.now c.args.meter.now c.loop-step.meter
    c.verify_step.new.meter c.loop-step.step-index c.as_slice-step-items.result.now
    c.step-item.result (key_total c.loop-step.results.items) 0 c.loop-step-test.true
    c.step-item.is
    c.loop-step.invariant.asked c.in_err-verify_step.ensures.asked))

pub level::verify_steps-returns-in_err-push-clause-asked : goal.level::verify_steps-returns-in_err-push-clause-asked
level::verify_steps-returns-in_err-push-clause-asked g t c =
    let s = g.C.Checking.setting c.args.walk.now.checking.now in
    let v = c.args.walk.now.level in
    let p = err_from_is_err_and c.from_residual-in_err-push.result
    c.from_residual-in_err-push.ensures.1 in
    rw p.1 (subst (λ ss. RaisedWithin 0 (LevelSum s v.depth v.layout.now v.links.now ss)
    c.args.meter.now c.verify_step.new.meter) c.as_slice-step-items.ensures
    (step_fails s v.depth v.layout.now v.links.now c.args.meter.now c.loop-step.meter
    c.verify_step.new.meter c.loop-step.step-index c.as_slice-step-items.result.now
    c.step-item.result (key_total c.loop-step.results.items) c.in_ok-verify_step.field-0.keys
    c.loop-step-test.true c.step-item.is
    c.loop-step.invariant.asked c.in_ok-verify_step.ensures.asked))

pub level::verify_steps-returns-clause-asked : goal.level::verify_steps-returns-clause-asked
level::verify_steps-returns-clause-asked g t c =
    let s = g.C.Checking.setting c.args.walk.now.checking.now in
    let v = c.args.walk.now.level in
    let steps = c.as_slice-step-items.result.now in
    let all : take c.loop-step.step-index steps ≡ v.layout.now.steps =
    take_all c.loop-step.step-index steps (omega arith) ∙ c.as_slice-step-items.ensures in
    subst (λ ss. RaisedWithin (key_total c.loop-step.results.items)
    (LevelSum s v.depth v.layout.now v.links.now ss) c.args.meter.now c.loop-step.meter) all
    c.loop-step.invariant.asked

pub level::judge_level-returns-then-is_expired-clause-asked : goal.level::judge_level-returns-then-is_expired-clause-asked
level::judge_level-returns-then-is_expired-clause-asked g t c =
    let s = g.C.Checking.setting c.args.walk.now.checking.now in
    let v = c.args.walk.now.level in
    within_none (LevelSum s v.depth v.layout.now v.links.now v.layout.now.steps) c.args.meter.now
    c.args.meter.now refl

pub level::judge_level-returns-in_err-claims-clause-asked : goal.level::judge_level-returns-in_err-claims-clause-asked
level::judge_level-returns-in_err-claims-clause-asked g t c =
    let s = g.C.Checking.setting c.args.walk.now.checking.now in
    let v = c.args.walk.now.level in
    let p = err_from_is_err_and c.from_residual.result c.from_residual.ensures.1 in
    rw p.1 (within_none (LevelSum s v.depth v.layout.now v.links.now v.layout.now.steps)
    c.args.meter.now c.args.meter.now refl)

pub level::judge_level-returns-in_err-steps-clause-asked : goal.level::judge_level-returns-in_err-steps-clause-asked
level::judge_level-returns-in_err-steps-clause-asked g t c =
    let p = err_from_is_err_and c.from_residual-in_err-steps.result
    c.from_residual-in_err-steps.ensures.1 in
    rw p.1 c.in_err-steps.ensures.asked

pub level::judge_level-returns-in_err-failed-clause-asked : goal.level::judge_level-returns-in_err-failed-clause-asked
level::judge_level-returns-in_err-failed-clause-asked g t c =
    let s = g.C.Checking.setting c.args.walk.now.checking.now in
    let v = c.args.walk.now.level in
    let p = err_from_is_err_and c.from_residual-in_err-failed.result
    c.from_residual-in_err-failed.ensures.1 in
    rw p.1 (within_least 0 (key_total c.in_ok-steps.steps.items)
    (LevelSum s v.depth v.layout.now v.links.now v.layout.now.steps) c.args.meter.now
    c.verify_steps.new.meter (omega arith) c.in_ok-steps.ensures.asked)

pub level::judge_level-returns-clause-asked : goal.level::judge_level-returns-clause-asked
level::judge_level-returns-clause-asked g t c =
    let s = g.C.Checking.setting c.args.walk.now.checking.now in
    let v = c.args.walk.now.level in
    rw c.from-steps.ensures (settled_asks s v.depth v.layout.now v.links.now c.args.meter.now
    c.verify_steps.new.meter (record { steps = c.in_ok-steps.steps.items })
    c.in_ok-failed.failed c.in_ok-steps.ensures.asked)

pub level::verify_level-returns-clause-asked : goal.level::verify_level-returns-clause-asked
level::verify_level-returns-clause-asked g t c = rw c.settled.ensures
    c.in_ok-judge_level.ensures.asked

pub level::verify_step-returns-in_err-found-clause-asked : goal.level::verify_step-returns-in_err-found-clause-asked
level::verify_step-returns-in_err-found-clause-asked g t c =
    let s = g.C.Checking.setting c.args.walk.now.checking.now in
    let v = c.args.walk.now.level in
    let p = err_from_is_err_and c.from_residual.result c.from_residual.ensures.1 in
    rw p.1 (within_none (StepCosts (cost_below s v.depth) s v.layout.now v.links.now
    c.args.step.now) c.args.meter.now c.args.meter.now refl)

pub level::verify_step-returns-in_err-signers-clause-asked : goal.level::verify_step-returns-in_err-signers-clause-asked
level::verify_step-returns-in_err-signers-clause-asked g t c =
    let s = g.C.Checking.setting c.args.walk.now.checking.now in
    let v = c.args.walk.now.level in
    let p = err_from_is_err_and c.from_residual-in_err-signers.result
    c.from_residual-in_err-signers.ensures.1 in
    rw p.1 (within_none (StepCosts (cost_below s v.depth) s v.layout.now v.links.now
    c.args.step.now) c.args.meter.now c.args.meter.now refl)

pub level::verify_step-returns-in_err-records-clause-asked : goal.level::verify_step-returns-in_err-records-clause-asked
level::verify_step-returns-in_err-records-clause-asked g t c =
    let s = g.C.Checking.setting c.args.walk.now.checking.now in
    let v = c.args.walk.now.level in
    let p = err_from_is_err_and c.from_residual-in_err-records.result
    c.from_residual-in_err-records.ensures.1 in
    let are : AreCandidates c.args.step.now.name (files_of v.links.now) c.in_ok-found.found =
    search rules in
    let same : map entry_of c.as_slice-signers.result.now ≡ signers_of v.layout.now
    c.args.step.now = search rules in
    rw p.1 (step_raises s v.depth v.layout.now v.links.now c.args.step.now c.in_ok-found.found are
    c.as_slice-signers.result.now same c.args.meter.now c.verify_ids.new.meter 0
    c.in_err-records.ensures.asked)

pub level::verify_step-returns-clause-asked : goal.level::verify_step-returns-clause-asked
level::verify_step-returns-clause-asked g t c =
    let s = g.C.Checking.setting c.args.walk.now.checking.now in
    let v = c.args.walk.now.level in
    let are : AreCandidates c.args.step.now.name (files_of v.links.now) c.in_ok-found.found =
    search rules in
    let same : map entry_of c.as_slice-signers.result.now ≡ signers_of v.layout.now
    c.args.step.now = search rules in
    step_asks s v.depth v.layout.now v.links.now c.args.step.now c.in_ok-found.found are
    c.as_slice-signers.result.now same c.args.meter.now c.verify_ids.new.meter
    c.in_ok-records.records.items c.judged.result
    c.judged.ensures c.in_ok-records.ensures.asked

pub sublayouts::verify_sublayout-returns-then-is_deepest-clause-asked : goal.sublayouts::verify_sublayout-returns-then-is_deepest-clause-asked
sublayouts::verify_sublayout-returns-then-is_deepest-clause-asked g t c =
    let s = g.C.Checking.setting c.args.walk.now.checking.now in
    let v = c.args.walk.now.level in
    within_none (cost_below s v.depth c.args.sublayout.now
    (folder_of c.args.at.now.step.now c.args.at.now.id.now v.links.now)) c.args.meter.now c.args.meter.now
    refl

pub sublayouts::verify_sublayout-returns-then-not-is_empty-clause-asked : goal.sublayouts::verify_sublayout-returns-then-not-is_empty-clause-asked
sublayouts::verify_sublayout-returns-then-not-is_empty-clause-asked g t c =
    let s = g.C.Checking.setting c.args.walk.now.checking.now in
    let v = c.args.walk.now.level in
    within_none (cost_below s v.depth c.args.sublayout.now
    (folder_of c.args.at.now.step.now c.args.at.now.id.now v.links.now)) c.args.meter.now c.args.meter.now
    refl

pub sublayouts::verify_sublayout-returns-in_err-folder-clause-asked : goal.sublayouts::verify_sublayout-returns-in_err-folder-clause-asked
sublayouts::verify_sublayout-returns-in_err-folder-clause-asked g t c =
    let s = g.C.Checking.setting c.args.walk.now.checking.now in
    let v = c.args.walk.now.level in
    let p = err_from_is_err_and c.from_residual.result c.from_residual.ensures.1 in
    rw p.1 (within_none (cost_below s v.depth c.args.sublayout.now
    (folder_of c.args.at.now.step.now c.args.at.now.id.now v.links.now)) c.args.meter.now c.args.meter.now
    refl)

pub sublayouts::verify_sublayout-returns-clause-asked : goal.sublayouts::verify_sublayout-returns-clause-asked
sublayouts::verify_sublayout-returns-clause-asked g t c =
    let s = g.C.Checking.setting c.args.walk.now.checking.now in
    let v = c.args.walk.now.level in
    let links = v.links.now in
    below_asks s c.args.sublayout.now (folder_of c.args.at.now.step.now c.args.at.now.id.now links)
    c.args.meter.now c.verify_level.new.meter v.depth (v.depth - 1)
    (omega (
      arith,
      not_when c.is_deepest.result (v.depth ≡ 0) c.is_deepest.ensures
          c.if-is_deepest.false,
    )) c.verify_level.result
    (subst (λ b. LevelAsks (record {
      setting = s;
      depth = v.depth - 1;
      layout = c.args.sublayout.now;
      bundle = b;
    })
    c.args.meter.now c.verify_level.new.meter c.verify_level.result) c.in_ok-folder.ensures
    c.verify_level.ensures.asked)

pub id_records::verify_id-returns-in_err-counted-clause-asked : goal.id_records::verify_id-returns-in_err-counted-clause-asked
id_records::verify_id-returns-in_err-counted-clause-asked g t c =
    let s = g.C.Checking.setting c.args.walk.now.checking.now in
    let l = c.args.walk.now.level in
    let p = err_from_is_err_and c.from_residual.result c.from_residual.ensures.1 in
    rw p.1 (candidates_raise s l.depth l.layout.now l.links.now c.args.at.now.step.now c.args.at.now.found
    c.args.signer.now.id.now 0 c.args.meter.now c.counted.new.meter c.in_err-counted.ensures.asked)

pub id_records::verify_id-returns-in_err-copy-in-Several-clause-asked : goal.id_records::verify_id-returns-in_err-copy-in-Several-clause-asked
id_records::verify_id-returns-in_err-copy-in-Several-clause-asked g t c =
    let s = g.C.Checking.setting c.args.walk.now.checking.now in
    let l = c.args.walk.now.level in
    let p = err_from_is_err_and c.from_residual-in_err-copy-in-Several.result
    c.from_residual-in_err-copy-in-Several.ensures.1 in
    rw p.1 (candidates_raise s l.depth l.layout.now l.links.now c.args.at.now.step.now c.args.at.now.found
    c.args.signer.now.id.now 0 c.args.meter.now c.counted.new.meter
    (rw c.in-Several.is at c.in_ok-counted.ensures.asked))

pub id_records::verify_id-returns-in_err-copy-in-Several-2-clause-asked : goal.id_records::verify_id-returns-in_err-copy-in-Several-2-clause-asked
id_records::verify_id-returns-in_err-copy-in-Several-2-clause-asked g t c =
    let s = g.C.Checking.setting c.args.walk.now.checking.now in
    let l = c.args.walk.now.level in
    let p = err_from_is_err_and c.from_residual-in_err-copy-in-Several-2.result
    c.from_residual-in_err-copy-in-Several-2.ensures.1 in
    rw p.1 (candidates_raise s l.depth l.layout.now l.links.now c.args.at.now.step.now c.args.at.now.found
    c.args.signer.now.id.now 0 c.args.meter.now c.counted.new.meter
    (rw c.in-Several.is at c.in_ok-counted.ensures.asked))

pub id_records::verify_id-returns-in_ok-copy-in-Several-2-clause-asked : goal.id_records::verify_id-returns-in_ok-copy-in-Several-2-clause-asked
id_records::verify_id-returns-in_ok-copy-in-Several-2-clause-asked g t c =
    let s = g.C.Checking.setting c.args.walk.now.checking.now in
    let l = c.args.walk.now.level in
    candidates_raise s l.depth l.layout.now l.links.now c.args.at.now.step.now c.args.at.now.found
    c.args.signer.now.id.now 0 c.args.meter.now c.counted.new.meter
    (rw c.in-Several.is at c.in_ok-counted.ensures.asked)

pub id_records::verify_id-returns-in-Nothing-clause-asked : goal.id_records::verify_id-returns-in-Nothing-clause-asked
id_records::verify_id-returns-in-Nothing-clause-asked g t c =
    let s = g.C.Checking.setting c.args.walk.now.checking.now in
    let l = c.args.walk.now.level in
    candidates_raise s l.depth l.layout.now l.links.now c.args.at.now.step.now c.args.at.now.found
    c.args.signer.now.id.now 0 c.args.meter.now c.counted.new.meter
    (rw c.in-Nothing.is at c.in_ok-counted.ensures.asked)

pub id_records::verify_id-returns-in-One-clause-asked : goal.id_records::verify_id-returns-in-One-clause-asked
id_records::verify_id-returns-in-One-clause-asked g t c =
    let s = g.C.Checking.setting c.args.walk.now.checking.now in
    let l = c.args.walk.now.level in
    let one = one_counts (holds_below s l.depth) (fails_below s l.depth) s l.layout.now l.links.now
    c.args.at.now.step.now c.args.signer.now.id.now c.args.signer.now.object.now c.args.at.now.found
    c.requires.candidates c.requires.listed c.requires.known
    c.in-One.found
    (rw (c.in-One.is, c.as_str-name.ensures) at c.in_ok-counted.ensures.answer) in
    record_asks s l.depth l.layout.now l.links.now c.args.at.now.step.now c.args.at.now.found
    c.args.signer.now.id.now (holds_below s l.depth) c.in-One.found.key (as_body c.in-One.found.body)
    one c.args.meter.now c.counted.new.meter c.verify_body-recorded.new.meter
    (rw c.in-One.is at c.in_ok-counted.ensures.asked) c.verify_body-recorded.result
    c.record_of.result c.record_of.ensures
    (rw c.as_str-name.ensures at c.verify_body-recorded.ensures.asked)

-- ---- the least that is asked
pub level::verify_steps-returns-clause-fewest : goal.level::verify_steps-returns-clause-fewest
level::verify_steps-returns-clause-fewest g t c =
    let s = g.C.Checking.setting c.args.walk.now.checking.now in
    let v = c.args.walk.now.level in
    let steps = c.as_slice-step-items.result.now in
    let all : take c.loop-step.step-index steps ≡ v.layout.now.steps =
    take_all c.loop-step.step-index steps (omega arith) ∙ c.as_slice-step-items.ensures in
    subst (λ ss. RaisedAtLeast (FewestSum s v.depth v.layout.now v.links.now ss) c.args.meter.now
    c.loop-step.meter) all c.loop-step.invariant.fewest

pub level::judge_level-returns-clause-fewest : goal.level::judge_level-returns-clause-fewest
level::judge_level-returns-clause-fewest g t c = c.in_ok-steps.ensures.fewest

pub level::judge_level-returns-clause-records : goal.level::judge_level-returns-clause-records
level::judge_level-returns-clause-records g t c = rw c.from-steps.ensures
    c.in_ok-steps.ensures.answer.1

pub level::verify_step-returns-clause-fewest : goal.level::verify_step-returns-clause-fewest
level::verify_step-returns-clause-fewest g t c =
    let s = g.C.Checking.setting c.args.walk.now.checking.now in
    let v = c.args.walk.now.level in
    step_takes (fewest_below s v.depth) (one_fewest_below s v.depth) (some_fewest_below s v.depth)
    (holds_below s v.depth) s v.layout.now v.links.now c.args.step.now
    c.in_ok-records.records.items c.in_ok-records.ensures.answer.1
    (fails_below s v.depth) (one_below s v.depth) c.args.meter.now c.verify_ids.new.meter
    c.judged.result c.in_ok-records.ensures.fewest

pub sublayouts::verify_sublayout-returns-clause-fewest : goal.sublayouts::verify_sublayout-returns-clause-fewest
sublayouts::verify_sublayout-returns-clause-fewest g t c =
    let s = g.C.Checking.setting c.args.walk.now.checking.now in
    let v = c.args.walk.now.level in
    let links = v.links.now in
    below_takes s c.args.sublayout.now (folder_of c.args.at.now.step.now c.args.at.now.id.now links)
    c.args.meter.now c.verify_level.new.meter v.depth (v.depth - 1)
    (omega (
      arith,
      not_when c.is_deepest.result (v.depth ≡ 0) c.is_deepest.ensures
          c.if-is_deepest.false,
    )) c.verify_level.result
    (subst (λ b. IfOk c.verify_level.result (λ _. LevelTakes (record {
      setting = s;
      depth = v.depth - 1;
      layout = c.args.sublayout.now;
      bundle = b;
    })
    c.args.meter.now c.verify_level.new.meter)) c.in_ok-folder.ensures c.verify_level.ensures.fewest)

pub id_records::verify_id-returns-in-Nothing-clause-fewest : goal.id_records::verify_id-returns-in-Nothing-clause-fewest
id_records::verify_id-returns-in-Nothing-clause-fewest g t c =
    least_of 0 (SignaturesIn c.args.at.now.found) c.args.meter.now c.counted.new.meter
    (rw c.in-Nothing.is at c.in_ok-counted.ensures.asked)

pub id_records::verify_id-returns-in-One-clause-fewest : goal.id_records::verify_id-returns-in-One-clause-fewest
id_records::verify_id-returns-in-One-clause-fewest g t c =
    let s = g.C.Checking.setting c.args.walk.now.checking.now in
    let l = c.args.walk.now.level in
    let one = one_counts (holds_below s l.depth) (fails_below s l.depth) s l.layout.now l.links.now
    c.args.at.now.step.now c.args.signer.now.id.now c.args.signer.now.object.now c.args.at.now.found
    c.requires.candidates c.requires.listed c.requires.known
    c.in-One.found
    (rw (c.in-One.is, c.as_str-name.ensures) at c.in_ok-counted.ensures.answer) in
    record_takes (fewest_below s l.depth) (one_fewest_below s l.depth) (some_fewest_below s l.depth)
    (holds_below s l.depth) s l.layout.now l.links.now c.args.at.now.step.now c.args.signer.now.id.now
    c.in-One.found.key (as_body c.in-One.found.body) one
    c.args.at.now.found c.args.meter.now c.counted.new.meter c.verify_body-recorded.new.meter
    (rw c.in-One.is at c.in_ok-counted.ensures.asked) c.verify_body-recorded.result
    c.record_of.result c.record_of.ensures
    (rw c.as_str-name.ensures at c.verify_body-recorded.ensures.fewest)

-- ---- a sublayout, which may have been answered
pub sublayouts::recorded_by-returns-in_err-recorded-clause-asked : goal.sublayouts::recorded_by-returns-in_err-recorded-clause-asked
sublayouts::recorded_by-returns-in_err-recorded-clause-asked g t c =
    let scope = scope_of g.C.Checking.setting c.args.walk.now in
    let place = c.args.at.now in
    let p = err_from_is_err_and c.from_residual.result c.from_residual.ensures.1 in
    rw p.1 (within_none (BodyCost scope place.step.now place.id.now (held_layout c.args.sublayout.now)) c.args.meter.now
    c.recall.new.meter c.in_err-recorded.ensures.unchanged)

pub sublayouts::recorded_by-returns-in-Some-clause-answer : goal.sublayouts::recorded_by-returns-in-Some-clause-answer
sublayouts::recorded_by-returns-in-Some-clause-answer g t c =
    let scope = scope_of g.C.Checking.setting c.args.walk.now in
    let place = c.args.at.now in
    let sublayout = c.args.sublayout.now in
    let told = recalled scope place.step.now place.id.now sublayout c.args.within.now
    c.requires.within place.payload.now c.requires.reads c.in-Some.recorded c.args.meter.now
    c.recall.new.meter (rw c.in-Some.is at c.in_ok-recorded.ensures.told) in
    told.answer

pub sublayouts::recorded_by-returns-in-Some-clause-asked : goal.sublayouts::recorded_by-returns-in-Some-clause-asked
sublayouts::recorded_by-returns-in-Some-clause-asked g t c =
    let scope = scope_of g.C.Checking.setting c.args.walk.now in
    let place = c.args.at.now in
    let sublayout = c.args.sublayout.now in
    let told = recalled scope place.step.now place.id.now sublayout c.args.within.now
    c.requires.within place.payload.now c.requires.reads c.in-Some.recorded c.args.meter.now
    c.recall.new.meter (rw c.in-Some.is at c.in_ok-recorded.ensures.told) in
    told.asked

pub sublayouts::recorded_by-returns-in-Some-clause-fewest : goal.sublayouts::recorded_by-returns-in-Some-clause-fewest
sublayouts::recorded_by-returns-in-Some-clause-fewest g t c =
    let scope = scope_of g.C.Checking.setting c.args.walk.now in
    let place = c.args.at.now in
    let sublayout = c.args.sublayout.now in
    let told = recalled scope place.step.now place.id.now sublayout c.args.within.now
    c.requires.within place.payload.now c.requires.reads c.in-Some.recorded c.args.meter.now
    c.recall.new.meter (rw c.in-Some.is at c.in_ok-recorded.ensures.told) in
    told.fewest

pub sublayouts::recorded_by-returns-in_err-recorded-2-clause-asked : goal.sublayouts::recorded_by-returns-in_err-recorded-2-clause-asked
sublayouts::recorded_by-returns-in_err-recorded-2-clause-asked g t c =
    let scope = scope_of g.C.Checking.setting c.args.walk.now in
    let place = c.args.at.now in
    let asked = c.verify_sublayout-chain.new.meter in
    let new = c.raise_by.new.meter in
    let is : new ≡ raised c.args.meter.now asked.asked = c.raise_by.ensures
    ∙ ap (λ m. raised m asked.asked) (none_recalled
    (answer_at c.args.within.now place.payload.now) c.args.meter.now
    c.recall.new.meter (rw c.in_default.is at c.in_ok-recorded.ensures.told)) in
    let p = err_from_is_err_and c.from_residual-in_err-recorded-2.result c.from_residual-in_err-recorded-2.ensures.1 in
    rw p.1 (anew_asks scope place.step.now place.id.now c.args.sublayout.now
    asked c.args.meter.now new is c.verify_sublayout-chain.result
    c.verify_sublayout-chain.ensures.asked)

pub sublayouts::recorded_by-returns-in_err-keep_recorded-clause-asked : goal.sublayouts::recorded_by-returns-in_err-keep_recorded-clause-asked
sublayouts::recorded_by-returns-in_err-keep_recorded-clause-asked g t c =
    let scope = scope_of g.C.Checking.setting c.args.walk.now in
    let place = c.args.at.now in
    let asked = c.verify_sublayout-chain.new.meter in
    let new = c.raise_by.new.meter in
    let is : new ≡ raised c.args.meter.now asked.asked = c.raise_by.ensures
    ∙ ap (λ m. raised m asked.asked) (none_recalled
    (answer_at c.args.within.now place.payload.now) c.args.meter.now
    c.recall.new.meter (rw c.in_default.is at c.in_ok-recorded.ensures.told)) in
    let p = err_from_is_err_and c.from_residual-in_err-keep_recorded.result c.from_residual-in_err-keep_recorded.ensures.1 in
    rw p.1 (anew_asks scope place.step.now place.id.now c.args.sublayout.now
    asked c.args.meter.now new is c.verify_sublayout-chain.result
    c.verify_sublayout-chain.ensures.asked)

pub sublayouts::recorded_by-returns-in_err-recorded-2-clause-answer : goal.sublayouts::recorded_by-returns-in_err-recorded-2-clause-answer
sublayouts::recorded_by-returns-in_err-recorded-2-clause-answer g t c =
    let scope = scope_of g.C.Checking.setting c.args.walk.now in
    let place = c.args.at.now in
    let p = err_from_is_err_and c.from_residual-in_err-recorded-2.result c.from_residual-in_err-recorded-2.ensures.1 in
    let error = c.in_err-recorded-2.field-0.0 in
    let fails : c.from_residual-in_err-recorded-2.result ≡ Err error =
    p.1 ∙ ap Err p.2 in
    subst (λ r. BodyAnswers scope place.step.now place.id.now (held_layout c.args.sublayout.now) r) (sym fails)
    (anew_fails scope place.step.now place.id.now c.args.sublayout.now
    c.verify_sublayout-chain.result error c.verify_sublayout-chain.ensures.answer
    c.in_err-recorded-2.ensures)

pub sublayouts::recorded_by-returns-clause-answer : goal.sublayouts::recorded_by-returns-clause-answer
sublayouts::recorded_by-returns-clause-answer g t c =
    let scope = scope_of g.C.Checking.setting c.args.walk.now in
    let place = c.args.at.now in
    let sublayout = c.args.sublayout.now in
    let asked = c.verify_sublayout-chain.new.meter in
    let new = c.raise_by.new.meter in
    let is : new ≡ raised c.args.meter.now asked.asked = c.raise_by.ensures
    ∙ ap (λ m. raised m asked.asked) (none_recalled
    (answer_at c.args.within.now place.payload.now) c.args.meter.now
    c.recall.new.meter (rw c.in_default.is at c.in_ok-recorded.ensures.told)) in
    let made = anew scope place.step.now place.id.now sublayout asked c.args.meter.now new is
    place.payload.now c.requires.reads c.verify_sublayout-chain.result c.in_ok-recorded-2.recorded
    c.verify_sublayout-chain.ensures.answer c.verify_sublayout-chain.ensures.asked
    c.verify_sublayout-chain.ensures.fewest c.in_ok-recorded-2.ensures in
    made.told.answer

pub sublayouts::recorded_by-returns-clause-asked : goal.sublayouts::recorded_by-returns-clause-asked
sublayouts::recorded_by-returns-clause-asked g t c =
    let scope = scope_of g.C.Checking.setting c.args.walk.now in
    let place = c.args.at.now in
    let sublayout = c.args.sublayout.now in
    let asked = c.verify_sublayout-chain.new.meter in
    let new = c.raise_by.new.meter in
    let is : new ≡ raised c.args.meter.now asked.asked = c.raise_by.ensures
    ∙ ap (λ m. raised m asked.asked) (none_recalled
    (answer_at c.args.within.now place.payload.now) c.args.meter.now
    c.recall.new.meter (rw c.in_default.is at c.in_ok-recorded.ensures.told)) in
    let made = anew scope place.step.now place.id.now sublayout asked c.args.meter.now new is
    place.payload.now c.requires.reads c.verify_sublayout-chain.result c.in_ok-recorded-2.recorded
    c.verify_sublayout-chain.ensures.answer c.verify_sublayout-chain.ensures.asked
    c.verify_sublayout-chain.ensures.fewest c.in_ok-recorded-2.ensures in
    made.told.asked

pub sublayouts::recorded_by-returns-clause-fewest : goal.sublayouts::recorded_by-returns-clause-fewest
sublayouts::recorded_by-returns-clause-fewest g t c =
    let scope = scope_of g.C.Checking.setting c.args.walk.now in
    let place = c.args.at.now in
    let sublayout = c.args.sublayout.now in
    let asked = c.verify_sublayout-chain.new.meter in
    let new = c.raise_by.new.meter in
    let is : new ≡ raised c.args.meter.now asked.asked = c.raise_by.ensures
    ∙ ap (λ m. raised m asked.asked) (none_recalled
    (answer_at c.args.within.now place.payload.now) c.args.meter.now
    c.recall.new.meter (rw c.in_default.is at c.in_ok-recorded.ensures.told)) in
    let made = anew scope place.step.now place.id.now sublayout asked c.args.meter.now new is
    place.payload.now c.requires.reads c.verify_sublayout-chain.result c.in_ok-recorded-2.recorded
    c.verify_sublayout-chain.ensures.answer c.verify_sublayout-chain.ensures.asked
    c.verify_sublayout-chain.ensures.fewest c.in_ok-recorded-2.ensures in
    made.told.fewest

pub sublayouts::recorded_by-returns-clause-within : goal.sublayouts::recorded_by-returns-clause-within
sublayouts::recorded_by-returns-clause-within g t c =
    let scope = scope_of g.C.Checking.setting c.args.walk.now in
    let place = c.args.at.now in
    let sublayout = c.args.sublayout.now in
    let asked = c.verify_sublayout-chain.new.meter in
    let new = c.raise_by.new.meter in
    let is : new ≡ raised c.args.meter.now asked.asked = c.raise_by.ensures
    ∙ ap (λ m. raised m asked.asked) (none_recalled
    (answer_at c.args.within.now place.payload.now) c.args.meter.now
    c.recall.new.meter (rw c.in_default.is at c.in_ok-recorded.ensures.told)) in
    let made = anew scope place.step.now place.id.now sublayout asked c.args.meter.now new is
    place.payload.now c.requires.reads c.verify_sublayout-chain.result c.in_ok-recorded-2.recorded
    c.verify_sublayout-chain.ensures.answer c.verify_sublayout-chain.ensures.asked
    c.verify_sublayout-chain.ensures.fewest c.in_ok-recorded-2.ensures in
    let folder = folder_of place.step.now place.id.now scope.bundle in
    kept_if_within scope.setting scope.depth folder c.verify_sublayout-chain.new.within
    c.keep_recorded.new.within place.payload.now
    (record { recorded = c.in_ok-recorded-2.recorded; asked = asked }) place.again made.kept
    c.in_ok-keep_recorded.ensures
    (of_summarized (AreWithin scope.setting scope.depth folder
    c.verify_sublayout-chain.new.within) place.step.now place.id.now
    c.verify_sublayout-chain.result c.in_ok-recorded-2.recorded c.in_ok-recorded-2.ensures
    c.verify_sublayout-chain.ensures.within)

-- ---- a body, which is a link or a sublayout
pub sublayouts::verify_body-recorded_by-requires : goal.sublayouts::verify_body-recorded_by-requires
sublayouts::verify_body-recorded_by-requires g t c κs within =
    let s = g.C.Checking.setting c.args.walk.now.checking.now in
    let v = c.args.walk.now.level in
    let place = c.args.at.now in
    let right = taken_within s v.depth v.links.now c.args.answered.now c.requires.answers
    (folder_name place.step.now place.id.now) c.take-within.result
    (rw (c.as_str.ensures.value, c.in_ok-folder-in-Layout.ensures) at
    c.take-within.ensures.taken) in (
      search rules,
      (search rules, (c.requires.shallow, (rw c.in-Layout.is at c.requires.reads, right))),
    )

pub sublayouts::verify_body-returns-in_err-recorded-in-Layout-clause-asked : goal.sublayouts::verify_body-returns-in_err-recorded-in-Layout-clause-asked
sublayouts::verify_body-returns-in_err-recorded-in-Layout-clause-asked g t c =
    let p = err_from_is_err_and c.from_residual-in_err-recorded-in-Layout.result c.from_residual-in_err-recorded-in-Layout.ensures.1 in
    rw (p.1, c.in-Layout.is) c.in_err-recorded-in-Layout.ensures.asked

pub sublayouts::verify_body-returns-in_err-give-in-Layout-clause-asked : goal.sublayouts::verify_body-returns-in_err-give-in-Layout-clause-asked
sublayouts::verify_body-returns-in_err-give-in-Layout-clause-asked g t c =
    let p = err_from_is_err_and c.from_residual-in_err-give-in-Layout.result c.from_residual-in_err-give-in-Layout.ensures.1 in
    rw (p.1, c.in-Layout.is) c.in_ok-recorded-in-Layout.ensures.asked

pub sublayouts::verify_body-returns-in_ok-give-in-Layout-clause-asked : goal.sublayouts::verify_body-returns-in_ok-give-in-Layout-clause-asked
sublayouts::verify_body-returns-in_ok-give-in-Layout-clause-asked g t c =
    rw c.in-Layout.is c.in_ok-recorded-in-Layout.ensures.asked

pub sublayouts::verify_body-returns-in_ok-give-in-Layout-clause-answers : goal.sublayouts::verify_body-returns-in_ok-give-in-Layout-clause-answers
sublayouts::verify_body-returns-in_ok-give-in-Layout-clause-answers g t c =
    let s = g.C.Checking.setting c.args.walk.now.checking.now in
    let v = c.args.walk.now.level in
    let place = c.args.at.now in
    given_answers s v.depth v.links.now c.args.answered.now c.requires.answers
    (folder_name place.step.now place.id.now) c.take-within.new.self c.give.new.self
    c.recorded_by.new.within
    (rw (c.as_str.ensures.value, c.in_ok-folder-in-Layout.ensures) at c.take-within.ensures.left)
    (rw c.in_ok-folder-in-Layout.ensures at c.in_ok-give-in-Layout.ensures)
    c.in_ok-recorded-in-Layout.ensures.within

-- ---- what was answered over a sublayout's folder
pub sublayouts::verify_sublayout-verify_level-requires : goal.sublayouts::verify_sublayout-verify_level-requires
sublayouts::verify_sublayout-verify_level-requires g t c κs within =
    let s = g.C.Checking.setting c.args.walk.now.checking.now in
    let v = c.args.walk.now.level in
    let above : v.depth ≡ suc (v.depth - 1) = omega (
      arith,
      not_when c.is_deepest.result (v.depth ≡ 0) c.is_deepest.ensures c.if-is_deepest.false,
    ) in
    let right = within_below s v.depth (v.depth - 1) above c.in_ok-folder.folder.now
    (folder_of c.args.at.now.step.now c.args.at.now.id.now v.links.now) c.in_ok-folder.ensures
    c.args.within.now c.requires.within in
    (search rules, (search rules, (omega (arith, c.requires.shallow), right)))

pub sublayouts::verify_sublayout-returns-clause-within : goal.sublayouts::verify_sublayout-returns-clause-within
sublayouts::verify_sublayout-returns-clause-within g t c =
    let s = g.C.Checking.setting c.args.walk.now.checking.now in
    let v = c.args.walk.now.level in
    let above : v.depth ≡ suc (v.depth - 1) = omega (
      arith,
      not_when c.is_deepest.result (v.depth ≡ 0) c.is_deepest.ensures c.if-is_deepest.false,
    ) in
    IfOk-weaker c.verify_level.result _ _
    (λ chain right. within_above s v.depth (v.depth - 1) above c.in_ok-folder.folder.now
    (folder_of c.args.at.now.step.now c.args.at.now.id.now v.links.now) c.in_ok-folder.ensures
    c.verify_level.new.answered right) c.verify_level.ensures.answers
