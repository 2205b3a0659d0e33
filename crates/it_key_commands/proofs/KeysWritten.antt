-- Files of keys that are written.
use Rattle.std.proofs.Common.{◌≡◌, ℕ, ◌≤◌, List, [], ◌∷◌, ◌++◌, codes, false, Some, refl, ap, arith}
use Rattle.std.specs.FinMap.{entries}
use Rattle.std.specs.List.{AllByRecursion}
use Rattle.std.specs.Str.{IsUtf8}
use Rattle.serde_json.specs.Data.{Data, depth}
use Rattle.serde_json.specs.Read.{max_depth, read}
use Rattle.serde_json.specs.Written.{compact_text, has_float}
use Rattle.it_base.specs.Table.{IsTable, Named}
use Rattle.it_dsse.specs.KeyObject.{IsKeyObject}
use Rattle.it_dsse.specs.declared.key_object.KeyObject.{KeyObject}
use Rattle.it_making.specs.ArtifactDocuments.{table_document}
use Rattle.it_making.proofs.LineFeeds.{document_feed}
use Rattle.it_making.proofs.TablesWritten.{Entry, no_float_in_entries, shallow_entries}
use Rattle.it_making.proofs.TablesWritten.{table_reads_back}
use Rattle.it_key_commands.specs.KeysFile.{KeysOf, key_document, keys_form}
use Rattle.it_key_commands.proofs.KeyvalsWritten.{key_has_no_float, key_is_shallow, key_reads_back}

each_reads_back : (es : List (Entry KeyObject))
    → AllByRecursion (λ e. IsKeyObject (key_document e.1) e.1) es
each_reads_back [] = tt
each_reads_back (e ∷ es) = (key_reads_back e.1, each_reads_back es)

table_is : (keys : Named KeyObject) → IsTable IsKeyObject (table_document key_document keys) keys
table_is keys =
    table_reads_back IsKeyObject key_document (λ _. refl) keys (each_reads_back (entries keys))

no_float : (keys : Named KeyObject) → has_float (table_document key_document keys) ≡ false
no_float keys = no_float_in_entries key_document key_has_no_float (entries keys)

shallow : (keys : Named KeyObject) → depth (table_document key_document keys) ≤ max_depth
shallow keys =
    let inside = shallow_entries key_document 2 key_is_shallow (entries keys) in
    omega (arith, inside)

-- the text of the document and a line feed are the written form
pub is_keys_form : (keys : Named KeyObject) (d : Data) (text : List ℕ)
    → d ≡ table_document key_document keys → (has_float d ≡ false → text ≡ compact_text d)
    → text ++ codes "\n" ≡ keys_form keys
unfolding keys_form
is_keys_form keys d text is writes =
    ap (λ s. s ++ codes "\n") ((rw is at writes) (no_float keys))

-- a text that reads as the document is a file of the keys, with a line feed too
pub keys_read_back : (keys : Named KeyObject) (d : Data) (text : List ℕ)
    → d ≡ table_document key_document keys → IsUtf8 text
    → (depth d ≤ max_depth → read text ≡ Some d) → KeysOf (text ++ codes "\n") keys
keys_read_back keys d text is utf8 reads = (
  table_document key_document keys,
  document_feed text (table_document key_document keys) (record {
    utf8 = utf8;
    reads = (rw is at reads) (shallow keys);
  }),
  table_is keys,
)
