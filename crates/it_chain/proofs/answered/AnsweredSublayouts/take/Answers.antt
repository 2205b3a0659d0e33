use Rattle.std.proofs.Common.{None, ◌∙◌}
use Rattle.std.proofs.lemmas.Map.Text.{btree_map_updates_text}
use Rattle.it_chain.specs.declared.answered.AnsweredSublayouts.{out-AnsweredSublayouts}
use Rattle.it_chain.proofs.Layers.{answer_in, within_in}
use Rattle.it_chain.proofs.answered.AnsweredSublayouts.take.Goals as goal

pub returns-in-Some-clause-left : goal.returns-in-Some-clause-left
returns-in-Some-clause-left c = (
  λ payload. answer_in _ payload,
  λ f. within_in _ f ∙ btree_map_updates_text c.args.folder.now
      (out-AnsweredSublayouts c.args.self.now).folders c.remove.new.self None
      c.remove.ensures.updates f,
)

pub returns-in-None-clause-left : goal.returns-in-None-clause-left
returns-in-None-clause-left c = (
  λ payload. answer_in _ payload,
  λ f. within_in _ f ∙ btree_map_updates_text c.args.folder.now
      (out-AnsweredSublayouts c.args.self.now).folders c.remove.new.self None
      c.remove.ensures.updates f,
)
