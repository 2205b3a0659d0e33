-- What a layout's steps and rules over the links come to, as evidence or as why there is none.
use Rattle.std.proofs.Common.{◌≡◌, ℕ, zero, suc, List, Option, None, Some, Ok, Err, IfErr, IfOk, subst, sym}
use Rattle.it_chain.specs.Chain.{Chain}
use Rattle.it_chain.specs.Contents.{Contents}
use Rattle.it_chain.specs.CountedBodies.{Setting}
use Rattle.it_chain.specs.First.{FirstChainFailure as ChainFirst}
use Rattle.it_chain.specs.Judged.{AreStepRecords, settled_by}
use Rattle.it_chain.specs.declared.chain.Chain.{Chain as ChainOf}
use Rattle.it_chain.specs.declared.chain.StepResult.{StepResult}
use Rattle.it_chain.specs.declared.refusal.ChainError.TheVariants as chain
use Rattle.it_chain.specs.declared.refusal.ChainRefusal.{ChainRefusal}
use Rattle.it_docs.specs.declared.layout.Layout.{Layout}
use Rattle.it_dsse.specs.Panel.{Panel}
use Rattle.it_verify.specs.Documents.{Documents, setting_of}
use Rattle.it_verify.specs.inside.DocumentsHold.{DocumentsHold}
use Rattle.it_verify.specs.inside.Evidence.{IsUngathered, held_by}
use Rattle.it_verify.specs.declared.evidence.Ungathered.{Ungathered}
use Rattle.it_verify.specs.declared.inputs.Inputs.{Inputs}
use Rattle.it_verify.proofs.BeforeLines.{chain_earlier}
use Rattle.it_verify.proofs.Verified.{links_fail}

module _ (judged : ChainOf) (P : List StepResult → Type 0) where
  holds_by : (failed : Option ChainRefusal)
      → IfOk (settled_by judged failed) (λ chain. P chain.steps) → IfOk (held_by judged failed) P
  holds_by None holds = holds
  holds_by (Some refusal) holds = tt

  records_by : (failed : Option ChainRefusal) → P judged.steps → IfOk (held_by judged failed) P
  records_by None records = records
  records_by (Some refusal) records = tt

  -- what is true of the records where the rules hold over them
  pub held_holds : (failed : Option ChainRefusal) (steps : List StepResult)
      → Ok steps ≡ held_by judged failed
      → IfOk (settled_by judged failed) (λ chain. P chain.steps) → P steps
  held_holds failed steps is holds = subst (λ r. IfOk r P) (sym is) (holds_by failed holds)

  -- what is true of the records whether or not they do
  pub held_records : (failed : Option ChainRefusal) (steps : List StepResult)
      → Ok steps ≡ held_by judged failed → P judged.steps → P steps
  held_records failed steps is records = subst (λ r. IfOk r P) (sym is) (records_by failed records)

module _ (panel : Panel) (inputs : Inputs) (documents : Documents)
    (hold : DocumentsHold panel inputs documents) (judged : ChainOf) where
  stopped_by : (failed : Option ChainRefusal)
      → IfErr (settled_by judged failed) (λ e. (r : ChainRefusal) → e ≡ chain.Refused r
      → ChainFirst (setting_of panel documents) inputs.depth documents.layout inputs.links r)
      → AreStepRecords (setting_of panel documents) inputs.depth documents.layout inputs.links
      judged.steps
      → IfErr (held_by judged failed) (IsUngathered panel inputs documents)
  stopped_by None first records = tt
  stopped_by (Some refusal) first records = record {
    fails = links_fail panel inputs documents hold (chain.Refused refusal) first;
    before_lines = chain_earlier (chain.Refused refusal);
    steps = records;
  }

  -- one of the rules fails over the records
  pub unheld_fails : (failed : Option ChainRefusal) (stopped : Ungathered)
      → Err stopped ≡ held_by judged failed
      → IfErr (settled_by judged failed) (λ e. (r : ChainRefusal) → e ≡ chain.Refused r
      → ChainFirst (setting_of panel documents) inputs.depth documents.layout inputs.links r)
      → AreStepRecords (setting_of panel documents) inputs.depth documents.layout inputs.links
      judged.steps
      → IsUngathered panel inputs documents stopped
  unheld_fails failed stopped is first records =
      subst (λ r. IfErr r (IsUngathered panel inputs documents)) (sym is)
      (stopped_by failed first records)

-- the records of the steps of a layout that holds
pub chain_records : (setting : Setting) (depth : ℕ) (layout : Layout) (bundle : Contents)
    (steps : List StepResult) → Chain setting depth layout bundle steps
    → AreStepRecords setting depth layout bundle steps
chain_records setting zero layout bundle steps holds = holds.steps
chain_records setting (suc depth) layout bundle steps holds = holds.steps
