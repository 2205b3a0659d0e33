-- A document has no more objects than its text has braces.
use Rattle.std.proofs.Common.{ℕ, ◌≤◌, List, subst, arith}
use Rattle.std.specs.Option.{IfSome}
use Rattle.std.proofs.lemmas.Option.{IfSome_then}
use Rattle.json.specs.Lex.{tokens}
use Rattle.serde_json.specs.Data.{Data}
use Rattle.serde_json.specs.Read.{max_depth, of_json, read}
use Rattle.it_base.specs.Document.{IsDocument}
use Rattle.it_objects.specs.Objects.{braces, objects}
use Rattle.it_objects.proofs.Converted.{data_objects}
use Rattle.it_objects.proofs.Counts.{begun, tree_objects}
use Rattle.it_objects.proofs.Lexed.{tokens_begin}
use Rattle.it_objects.proofs.Options.{and_then_holds}
use Rattle.it_objects.proofs.Parsed.{parsed_begins}

read_objects : (text : List ℕ) → IfSome (read text) (λ d. objects d ≤ braces text)
read_objects text =
    and_then_holds (λ j. tree_objects j ≤ begun (tokens text)) (λ d. objects d ≤ braces text)
    of_json (λ j h. IfSome_then (of_json j) (data_objects j)
    (λ d k. omega (arith, h, k, tokens_begin text))) _ (parsed_begins max_depth (tokens text))

pub document_objects : (bytes : List ℕ) (d : Data) → IsDocument bytes d → objects d ≤ braces bytes
document_objects bytes d h =
    subst (λ o. IfSome o (λ d. objects d ≤ braces bytes)) h.reads (read_objects bytes)
