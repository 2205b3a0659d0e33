use Rattle.std.proofs.Common.{Some, string_bytes, ◌∙◌}
use Rattle.std.proofs.lemmas.Map.Text.{btree_map_updates_text}
use Rattle.it_chain.specs.declared.answered.AnsweredSublayouts.{out-AnsweredSublayouts}
use Rattle.it_chain.proofs.Layers.{answer_in, within_in}
use Rattle.it_chain.proofs.answered.AnsweredSublayouts.give.Goals as goal

pub returns : goal.returns
returns c = (
  λ payload. answer_in _ payload,
  λ f. within_in _ f ∙ btree_map_updates_text (string_bytes c.args.folder)
      (out-AnsweredSublayouts c.args.self.now).folders c.insert.new.self
      (Some c.args.within) c.in_ok-insert.ensures.updates f,
)
