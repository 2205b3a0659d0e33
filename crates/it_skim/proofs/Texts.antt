-- A text in a document is one in the tree of its text.
use Rattle.std.proofs.Common.{◌≡◌, ◌∙◌, ℕ, List, Option, Some, None, option_and_then, option_map}
use Rattle.std.proofs.Common.{ap, subst}
use Rattle.std.specs.Prelude.{MatchOption, unwrap_or}
use Rattle.json.specs.Find as tree
use Rattle.json.specs.Json.{Json, null, boolean, number, string, array, object}
use Rattle.serde_json.specs.Data.{Data}
use Rattle.serde_json.specs.Find.{get}
use Rattle.it_base.specs.Document.{IsDocument, present}
use Rattle.it_base.specs.Parts.{IsPart}
use Rattle.it_base.specs.Text.{IsText}
use Rattle.it_borrowed.specs.Tree.{data_of}
use Rattle.it_borrowed.proofs.Ranges.{read-json}
use Rattle.it_borrowed.proofs.Trees.{get-data_of}
use Rattle.it_skim.specs.TextMember.{HasText}

abbrev TextAt : Option Data → List ℕ → Type 0
TextAt found text = MatchOption (option_and_then present found) ⊥ (λ v. IsText v text)

text_in : (found : Option Json) (text : List ℕ) → TextAt (option_map data_of found) text
    → found ≡ Some (string text)
text_in None text is = absurd is
text_in (Some null) text is = absurd is
text_in (Some (boolean b)) text is = absurd (cc)
text_in (Some (number s)) text is = absurd (cc)
text_in (Some (string s)) text is = ap (λ o. Some (string (unwrap_or o s))) is
text_in (Some (array js)) text is = absurd (cc)
text_in (Some (object ms)) text is = absurd (cc)

-- the member of this name in a document is the text, so the text that it was read from has it
pub text_of_document : (bytes : List ℕ) (d : Data) (name text : List ℕ) → IsDocument bytes d
    → IsPart IsText name d text → HasText bytes name text
text_of_document bytes d name text is part =
    let j = read-json bytes d is.reads in
    let found : get name d ≡ option_map data_of (tree.get name j.0) =
    ap (get name) j.2 ∙ get-data_of name j.0 in
    record {
      utf8 = is.utf8;
      tree = j.0;
      is_tree = j.1;
      has = text_in (tree.get name j.0) text (subst (λ o. TextAt o text) found part);
    }
