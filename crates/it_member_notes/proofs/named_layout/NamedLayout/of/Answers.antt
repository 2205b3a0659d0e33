use Rattle.std.proofs.lemmas.List.Elements.{All-weaker}
use Rattle.it_docs.specs.declared.step.Step.{Step}
use Rattle.it_member_notes.specs.inside.NamedLayout.{HasName}
use Rattle.it_member_notes.proofs.named_layout.NamedLayout.of.Goals as goal

pub returns-clause-names : goal.returns-clause-names
returns-clause-names c = record {
  steps = All-weaker (λ (s : Step). HasName c.add_steps.new.names s.name)
      (λ (s : Step). HasName c.add_inspections.new.names s.name)
      (λ s h. c.in_ok-add_inspections.ensures.kept s.name h) c.args.layout.now.steps
      (rw c.as_slice.ensures at c.in_ok-add_steps.ensures);
  inspections = rw c.as_slice-2.ensures at c.in_ok-add_inspections.ensures.all;
}
