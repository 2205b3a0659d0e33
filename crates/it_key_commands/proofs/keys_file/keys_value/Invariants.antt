use Rattle.std.proofs.Common.{◌≡◌, List, ◌++◌}
use Rattle.std.specs.FinMap.{entries}
use Rattle.serde_json.specs.View.{members_view}
use Rattle.it_base.specs.Table.{named_entries}
use Rattle.it_dsse.specs.declared.key_object.KeyObject.{KeyObject}
use Rattle.it_making.specs.ArtifactDocuments.{entry_members}
use Rattle.it_making.proofs.TablesWritten.{Entry}
use Rattle.it_key_commands.specs.KeysFile.{key_document}
use Rattle.it_key_commands.proofs.keys_file.keys_value.Given as goal

-- what was put so far, and what is left
abbrev pub invariant-loop-id : goal.invariant-loop-id
invariant-loop-id l =
    (done : List (Entry KeyObject)) × (entries l.keys ≡ done ++ named_entries l.id-iterator)
    × (members_view l.members.entries ≡ entry_members key_document done)
