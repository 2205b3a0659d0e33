use Rattle.std.proofs.Common.{◌≡◌, drop}
use Rattle.it_file_evidence.specs.Signer.{first_answer, object_of}
use Rattle.it_file_evidence.proofs.signer.object_of_builders.Given as goal

-- the answer is that of the builders that are left
abbrev pub invariant-loop-builder : goal.invariant-loop-builder
invariant-loop-builder l =
    first_answer (object_of l.id l.signature l.identity) (drop l.builder-index l.builders)
    ≡ first_answer (object_of l.id l.signature l.identity) l.builders
