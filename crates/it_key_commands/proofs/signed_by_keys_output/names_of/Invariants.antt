use Rattle.std.proofs.Common.{map, string_bytes}
use Rattle.it_base.specs.Table.{named_entries}
use Rattle.it_key_commands.proofs.Naming.{AreNamesSoFar}
use Rattle.it_key_commands.proofs.signed_by_keys_output.names_of.Given as goal

abbrev pub invariant-loop-id : goal.invariant-loop-id
invariant-loop-id l = AreNamesSoFar l.objects l.message l.signatures (named_entries l.id-iterator)
    (map string_bytes l.names.items)
