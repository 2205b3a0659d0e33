use Rattle.std.proofs.Common.{◌+◌, ◌*◌, length, take, flat_map}
use Rattle.std.specs.List.{AllZip}
use Rattle.it_base.specs.Places.{NoneAt}
use Rattle.it_chain.specs.Chain.{holds_below}
use Rattle.it_chain.specs.Fewest.{fewest_below}
use Rattle.it_chain.specs.Raised.{RaisedAtLeast, RaisedWithin}
use Rattle.it_chain.specs.inside.Asked.{RecordsFewest, key_total}
use Rattle.it_chain.specs.inside.Answered.{AreAnswers}
use Rattle.it_chain.specs.inside.Scope.{scope_of}
use Rattle.it_chain.specs.First.{step_places}
use Rattle.it_chain.specs.Level.{StepHolds}
use Rattle.it_chain.specs.inside.Below.{StandsAt}
use Rattle.it_chain.proofs.LevelAsking.{LevelSum, SignersSum}
use Rattle.it_chain.proofs.LevelFewest.{FewestSum}
use Rattle.it_chain.proofs.SignerWalks.{AreWalked}
use Rattle.it_chain.proofs.+level.Given as goal

abbrev pub decreases-sublayouts::verify_sublayout : goal.decreases-sublayouts::verify_sublayout
decreases-sublayouts::verify_sublayout g l = 9 * l.walk.now.level.depth

abbrev pub decreases-sublayouts::recorded_by : goal.decreases-sublayouts::recorded_by
decreases-sublayouts::recorded_by g l = 9 * l.walk.now.level.depth + 1

abbrev pub decreases-sublayouts::verify_body : goal.decreases-sublayouts::verify_body
decreases-sublayouts::verify_body g l = 9 * l.walk.now.level.depth + 2

abbrev pub decreases-id_records::verify_id : goal.decreases-id_records::verify_id
decreases-id_records::verify_id g l = 9 * l.walk.now.level.depth + 3

abbrev pub decreases-id_records::verify_ids : goal.decreases-id_records::verify_ids
decreases-id_records::verify_ids g l = 9 * l.walk.now.level.depth + 4

abbrev pub decreases-level::verify_step : goal.decreases-level::verify_step
decreases-level::verify_step g l = 9 * l.walk.now.level.depth + 5

abbrev pub decreases-level::verify_steps : goal.decreases-level::verify_steps
decreases-level::verify_steps g l = 9 * l.walk.now.level.depth + 6

abbrev pub decreases-level::judge_level : goal.decreases-level::judge_level
decreases-level::judge_level g l = 9 * l.walk.now.level.depth + 7

abbrev pub decreases-level::verify_level : goal.decreases-level::verify_level
decreases-level::verify_level g l = 9 * l.walk.now.level.depth + 8

-- nothing stands at the steps so far, which hold with the results, no more was asked than
-- they cost, and no less than they take; what was answered for sublayouts is right
abbrev pub invariant-level::verify_steps-loop-step : goal.invariant-level::verify_steps-loop-step
invariant-level::verify_steps-loop-step g l =
    let setting = g.C.Checking.setting l.walk.checking.now in
    let layout = l.walk.level.layout.now in
    let bundle = l.walk.level.links.now in
    record {
      none : NoneAt (StandsAt setting l.walk.level.depth layout bundle)
          (flat_map (step_places layout) (take l.step-index l.step-items));
      hold : AllZip (StepHolds (holds_below setting l.walk.level.depth) setting layout bundle)
          (take l.step-index l.step-items) l.results.items;
      asked : RaisedWithin (key_total l.results.items) (LevelSum setting l.walk.level.depth layout bundle
          (take l.step-index l.step-items)) l.fn.meter l.meter;
      fewest : RaisedAtLeast (FewestSum setting l.walk.level.depth layout bundle
          (take l.step-index l.step-items)) l.fn.meter l.meter;
      answers : AreAnswers (scope_of g.C.Checking.setting l.walk) l.answered;
    }

-- nothing stands at the ids of the signers so far, of which these are the records, no more was
-- asked than they cost, and no less than the records take; what was answered for them is right
abbrev pub invariant-id_records::verify_ids-loop-signer : goal.invariant-id_records::verify_ids-loop-signer
invariant-id_records::verify_ids-loop-signer g l =
    let setting = g.C.Checking.setting l.walk.checking.now in
    let layout = l.walk.level.layout.now in
    let bundle = l.walk.level.links.now in
    record {
      walked : AreWalked setting l.walk.level.depth layout bundle l.at.step.now
          (take l.signer-index l.signers) l.records.items;
      asked : RaisedWithin (length l.records.items)
          (SignersSum setting l.walk.level.depth layout bundle l.at.step.now l.at.found
          (take l.signer-index l.signers)) l.fn.meter l.meter;
      fewest : RaisedAtLeast (RecordsFewest (fewest_below setting l.walk.level.depth) setting layout
          bundle l.at.step.now l.records.items) l.fn.meter l.meter;
      answers : AreAnswers (scope_of g.C.Checking.setting l.walk) l.answered;
    }
