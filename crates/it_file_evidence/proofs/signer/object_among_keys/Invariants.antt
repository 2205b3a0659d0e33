use Rattle.std.proofs.Common.{◌≡◌}
use Rattle.std.specs.FinMap.{entries}
use Rattle.it_base.specs.Table.{named_entries}
use Rattle.it_file_evidence.specs.Signer.{first_answer, object_for}
use Rattle.it_file_evidence.proofs.signer.object_among_keys.Given as goal

-- the answer is that of the keys that are left
abbrev pub invariant-loop-id : goal.invariant-loop-id
invariant-loop-id l =
    first_answer (object_for l.signature l.identity) (named_entries l.id-iterator)
    ≡ first_answer (object_for l.signature l.identity) (entries l.builder.keys)
