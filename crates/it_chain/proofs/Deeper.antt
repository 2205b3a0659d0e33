-- What holds at a depth holds at the next.
use Rattle.std.proofs.Common.{ℕ, zero, suc, List}
use Rattle.it_docs.specs.declared.layout.Layout.{Layout}
use Rattle.it_docs.specs.declared.step.Step.{Step}
use Rattle.it_rules.specs.Item.{Recorded}
use Rattle.it_chain.specs.Chain.{Chain, none_holds}
use Rattle.it_chain.specs.Contents.{Contents}
use Rattle.it_chain.specs.CountedBodies.{Setting, Body, of_link, of_layout}
use Rattle.it_chain.specs.Level.{Holding, Records, HasRecord, StepHolds, LevelHolds}
use Rattle.it_chain.specs.Sublayouts.{folder_of}
use Rattle.it_chain.specs.declared.chain.StepResult.{StepResult}
use Rattle.it_chain.proofs.Zips.{zip_weaker}

module _ (sub more : Holding) (wider : (layout : Layout) (bundle : Contents) (m : List StepResult)
    → sub layout bundle m → more layout bundle m) (setting : Setting) (bundle : Contents) where
  records_wider : (step id : List ℕ) (body : Body) (recorded : Recorded)
      → Records sub bundle step id body recorded → Records more bundle step id body recorded
  records_wider step id (of_link link) recorded h = h
  records_wider step id (of_layout layout) recorded h =
      (h.0, h.1, wider layout (folder_of step id bundle) h.0 h.2, h.3)

  module _ (layout : Layout) where
    record_wider : (step : Step) (id : List ℕ) (recorded : Recorded)
        → HasRecord sub setting layout bundle step id recorded
        → HasRecord more setting layout bundle step id recorded
    record_wider step id recorded h = record {
      payload = h.payload;
      body = h.body;
      counted = h.counted;
      reads = h.reads;
      records = records_wider step.name id h.body recorded h.records;
    }

    step_wider : (step : Step) (result : StepResult)
        → StepHolds sub setting layout bundle step result
        → StepHolds more setting layout bundle step result
    step_wider step result h = record {
      name = h.name;
      one_body = h.one_body;
      agree = λ id payload counted. record_wider step id _ (h.agree id payload counted);
      keys = h.keys;
      threshold = h.threshold;
    }

    pub level_wider : (m : List StepResult) → LevelHolds sub setting layout bundle m
        → LevelHolds more setting layout bundle m
    level_wider m h = record {
      unexpired = h.unexpired;
      steps = zip_weaker (StepHolds sub setting layout bundle)
          (StepHolds more setting layout bundle) step_wider layout.steps m h.steps;
      rules = h.rules;
    }

pub chain_deeper : (setting : Setting) (depth : ℕ) (layout : Layout) (bundle : Contents)
    (m : List StepResult) → Chain setting depth layout bundle m
    → Chain setting (suc depth) layout bundle m
chain_deeper setting zero layout bundle m = level_wider none_holds (Chain setting zero)
    (λ l b n h. absurd h) setting bundle layout m
chain_deeper setting (suc depth) layout bundle m =
    level_wider (Chain setting depth) (Chain setting (suc depth)) (chain_deeper setting depth)
    setting bundle layout m
