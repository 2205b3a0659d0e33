use Rattle.std.proofs.Common.{List, IfSome, subst}
use Rattle.it_docs.specs.declared.policy.Builder.{Builder}
use Rattle.it_prov_notes.specs.ProvenanceNotes.{IsHinted}
use Rattle.it_prov_notes.proofs.envelope.unsigned_misses.Goals as goal

pub returns-then-branch : goal.returns-then-branch
returns-then-branch g c = λ line reads none. (
  c.args.envelope.now,
  reads,
  (
    none,
    subst (λ (builders : List Builder). IfSome c.in_ok-hinted.hinted
        (IsHinted (g.C.Checks.panel c.args.checks.now) builders c.args.envelope.now))
        c.as_slice-builders.ensures c.in_ok-hinted.ensures,
  ),
)
