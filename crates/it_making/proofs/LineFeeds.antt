-- A line feed after a document changes nothing of it.
use Rattle.std.proofs.Common.{◌≡◌, ℕ, List, [], ◌∷◌, ◌++◌, refl, ap, ap₂, ◌∙◌, option_and_then}
use Rattle.std.proofs.lemmas.Str.{IsUtf8-append}
use Rattle.json.specs.Json as json
use Rattle.json.specs.Lex.{Class, Mode, between, class, in_escape, in_string, in_word, lex}
use Rattle.json.specs.Lex.{fresh, lex_byte, operator_lexeme, punctuate, quote, backslash, operator}
use Rattle.json.specs.Lex.{space, other, string_token, token}
use Rattle.json.specs.Text.{plain}
use Rattle.json.specs.Token.{bad}
use Rattle.json.proofs.Printed.Utf8.{IsUtf8-are_ascii}
use Rattle.serde_json.specs.Data.{Data}
use Rattle.serde_json.specs.Read.{max_depth, of_json, read}
use Rattle.it_base.specs.Document.{IsDocument}
use Rattle.it_making.proofs.WordFeeds.{content_feed, feed, word_feed}

lex_byte-feed : (m : Mode) (c : Class) (x : ℕ) (xs : List ℕ)
    → ((next : Mode) → lex next (xs ++ feed) ≡ lex next xs)
    → lex_byte m c x (xs ++ feed) (λ next. lex next (xs ++ feed))
    ≡ lex_byte m c x xs (λ next. lex next xs)
lex_byte-feed between quote x xs more =
    ap₂ (λ s ls. token (string_token s) ∷ ls) (content_feed plain xs) (more in_string)
lex_byte-feed between other x xs more =
    ap₂ (λ t ls. token t ∷ ls) (word_feed (x ∷ xs)) (more in_word)
lex_byte-feed between backslash x xs more = λ i. token bad ∷ more in_word i
lex_byte-feed between operator x xs more = λ i. operator_lexeme x ∷ more between i
lex_byte-feed between space x xs more = more between
lex_byte-feed in_word quote x xs more = more in_word
lex_byte-feed in_word backslash x xs more = more in_word
lex_byte-feed in_word operator x xs more = λ i. operator_lexeme x ∷ more between i
lex_byte-feed in_word space x xs more = more between
lex_byte-feed in_word other x xs more = more in_word
lex_byte-feed in_string quote x xs more = more between
lex_byte-feed in_string backslash x xs more = more in_escape
lex_byte-feed in_string operator x xs more = more in_string
lex_byte-feed in_string space x xs more = more in_string
lex_byte-feed in_string other x xs more = more in_string
lex_byte-feed in_escape c x xs more = more in_string

lex-feed : (xs : List ℕ) (m : Mode) → lex m (xs ++ feed) ≡ lex m xs
unfolding lex
lex-feed [] between = refl
lex-feed [] in_word = refl
lex-feed [] in_string = refl
lex-feed [] in_escape = refl
lex-feed (x ∷ xs) m = lex_byte-feed m (class x) x xs (lex-feed xs)

read-feed : (text : List ℕ) → read (text ++ feed) ≡ read text
read-feed text =
    ap (λ ts. option_and_then of_json (option_and_then (λ p. json.if_last p.0 p.1)
    (json.value max_depth ts))) (ap (punctuate fresh) (lex-feed text between))

-- a document with a line feed after it is the same document
pub document_feed : (text : List ℕ) (d : Data) → IsDocument text d → IsDocument (text ++ feed) d
document_feed text d is = record {
  utf8 = IsUtf8-append text feed is.utf8 (IsUtf8-are_ascii feed refl);
  reads = read-feed text ∙ is.reads;
}
