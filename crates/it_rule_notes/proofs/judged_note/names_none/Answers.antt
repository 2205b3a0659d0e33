use Rattle.std.proofs.Common.{◌≢◌, refl}
use Rattle.std.proofs.lemmas.Bool.{false≢true}
use Rattle.std.proofs.lemmas.List.Elements.{All-contains}
use Rattle.it_docs.specs.declared.step.Inspection.{Inspection}
use Rattle.it_rule_notes.proofs.judged_note.names_none.Goals as goal

pub returns-in-Some : goal.returns-in-Some
returns-in-Some c = (
  λ t. absurd (false≢true t),
  λ all. absurd (All-contains (λ (inspection : Inspection). inspection.name ≢ c.args.name.now)
      c.args.inspections.now c.in-Some.field-0.now all c.in-Some.ensures.0 c.in-Some.ensures.1),
)

pub returns-in-None : goal.returns-in-None
returns-in-None c = (λ _. c.in-None.ensures, λ _. refl)
