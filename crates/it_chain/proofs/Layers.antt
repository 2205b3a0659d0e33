-- What was answered, read from one layer of it.
use Rattle.std.proofs.Common.{◌≡◌, ℕ, List, ap}
use Rattle.std.specs.BTreeMap.{get_by_text}
use Rattle.it_chain.specs.Answered.{answer_at, within_at}
use Rattle.it_chain.specs.declared.answered.AnsweredSublayouts.{AnsweredSublayouts}
use Rattle.it_chain.specs.declared.answered.AnsweredSublayouts.TheOpen.{AnsweredSublayouts-F}
use Rattle.it_chain.specs.declared.answered.AnsweredSublayouts.TheViews.{out-roll-AnsweredSublayouts}
use Rattle.it_chain.specs.declared.answered.AnsweredSublayouts.TheViews.{roll-AnsweredSublayouts}
use Rattle.it_chain.proofs.Keyed.{get_bytes}

module _ (layer : AnsweredSublayouts-F AnsweredSublayouts) where
  pub answer_in : (payload : List ℕ)
      → answer_at (roll-AnsweredSublayouts layer) payload ≡ get_bytes layer.by_payload payload
  answer_in payload =
      ap (λ (l : AnsweredSublayouts-F AnsweredSublayouts). get_bytes l.by_payload payload)
      (out-roll-AnsweredSublayouts layer)

  pub within_in : (folder : List ℕ)
      → within_at (roll-AnsweredSublayouts layer) folder ≡ get_by_text layer.folders folder
  within_in folder =
      ap (λ (l : AnsweredSublayouts-F AnsweredSublayouts). get_by_text l.folders folder)
      (out-roll-AnsweredSublayouts layer)
