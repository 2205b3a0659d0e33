use Rattle.std.proofs.Common.{Some, ◌∙◌}
use Rattle.it_chain.proofs.Keyed.{map_updates_bytes}
use Rattle.it_chain.specs.declared.answered.AnsweredSublayouts.{out-AnsweredSublayouts}
use Rattle.it_chain.proofs.Layers.{answer_in, within_in}
use Rattle.it_chain.proofs.answered.AnsweredSublayouts.keep.Goals as goal

pub returns : goal.returns
returns c = (
  λ p. answer_in _ p ∙ map_updates_bytes c.args.payload.items
      (out-AnsweredSublayouts c.args.self.now).by_payload c.insert.new.self
      (Some c.args.answer) c.in_ok-insert.ensures.updates p,
  λ folder. within_in _ folder,
)
