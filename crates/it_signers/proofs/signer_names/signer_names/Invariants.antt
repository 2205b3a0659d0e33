use Rattle.std.proofs.Common.{map, string_bytes}
use Rattle.it_base.specs.Table.{named_entries}
use Rattle.it_signers.proofs.Naming.{AreNamesSoFar}
use Rattle.it_signers.proofs.signer_names.signer_names.Given as goal

abbrev pub invariant-loop-id : goal.invariant-loop-id
invariant-loop-id g l = AreNamesSoFar (g.C.Checks.panel l.checks) l.objects l.envelope
    (named_entries l.id-iterator) (map string_bytes l.names.items)
