-- The tokens of a text begin no more objects than the text has braces.
use Rattle.std.proofs.Common.{◌≡◌, ◌≤◌, ◌+◌, ℕ, List, [], ◌∷◌, Bool, true, false, Option, Some}
use Rattle.std.proofs.Common.{None, length, drop, refl, cond, ◌&&◌, ◌==◌, nat_eq, arith}
use Rattle.std.proofs.lemmas.List.Sums.{sum_by-cons}
use Rattle.std.specs.List.{starts_with}
use Rattle.json.specs.Ascii as ascii
use Rattle.json.specs.Token as token
use Rattle.json.specs.Token.{Token}
use Rattle.json.specs.Text.{plain, content}
use Rattle.json.specs.Word.{after_number, ends_word, head, literal, number_before, word}
use Rattle.json.specs.Lex.{Lexeme, comma, colon, Class, quote, backslash, operator, space, other}
use Rattle.json.specs.Lex.{class, operator_lexeme, string_token, Mode, between, in_word, in_string}
use Rattle.json.specs.Lex.{in_escape, lex_byte, lex, Place, fresh, after_value, after_comma}
use Rattle.json.specs.Lex.{after_key, begins_colon, may_begin, may_close, if_allowed, place_token}
use Rattle.json.specs.Lex.{punctuate, tokens}
use Rattle.it_objects.specs.Objects.{braces}
use Rattle.it_objects.proofs.Counts.{begun_by, begun, begun_in}

-- ---- words and strings begin no object

abbrev BeginsNone : Token → Type 0
BeginsNone t = begun_by t ≡ 0

one_of : (b : Bool) (t u : Token) → BeginsNone t → BeginsNone u → BeginsNone (cond b t u)
one_of true t u h k = h
one_of false t u h k = k

number_begins : (t : List ℕ) (o : Option (List ℕ)) → BeginsNone (number_before t o)
number_begins t None = refl
number_begins t (Some rest) = one_of (ends_word rest) _ _ refl refl

literal_begins : (name : List ℕ) (found : Token) (t : List ℕ) → BeginsNone found
    → BeginsNone (literal name found t)
literal_begins name found t h =
    one_of (starts_with nat_eq t name && ends_word (drop (length name) t)) found token.bad h refl

word_begins : (t : List ℕ) → BeginsNone (word t)
unfolding word
word_begins t =
    one_of (head t == ascii.lower_t) _ _
    (literal_begins ascii.true_text (token.boolean true) t refl)
    (one_of (head t == ascii.lower_f) _ _
    (literal_begins ascii.false_text (token.boolean false) t refl)
    (one_of (head t == ascii.lower_n) _ _ (literal_begins ascii.null_text token.null t refl)
    (number_begins t (after_number t))))

string_begins : (o : Option (List ℕ)) → BeginsNone (string_token o)
string_begins None = refl
string_begins (Some s) = refl

-- ---- lexemes begin an object at each brace outside strings, and nowhere else

operator_begins : (a b c d e : Bool) (ls : List Lexeme)
    → begun_in (cond a (Lexeme.token token.begin_object) (cond b (Lexeme.token token.end_object)
    (cond c (Lexeme.token token.begin_array) (cond d (Lexeme.token token.end_array)
    (cond e comma colon)))) ∷ ls) ≤ cond a 1 0 + begun_in ls
operator_begins true b c d e ls = omega arith
operator_begins false true c d e ls = omega arith
operator_begins false false true d e ls = omega arith
operator_begins false false false true e ls = omega arith
operator_begins false false false false true ls = omega arith
operator_begins false false false false false ls = omega arith

module _ (x : ℕ) (xs : List ℕ) (k : Mode → List Lexeme) (most : ℕ)
    (more : (m : Mode) → begun_in (k m) ≤ most) where
  abbrev IsWithin : List Lexeme → Type 0
  IsWithin ls = begun_in ls ≤ cond (x == ascii.open_brace) 1 0 + most

  goes_on : (m : Mode) → IsWithin (k m)
  goes_on m = omega (arith, more m)

  after_operator : IsWithin (operator_lexeme x ∷ k between)
  after_operator =
      let here = operator_begins (x == ascii.open_brace) (x == ascii.close_brace)
      (x == ascii.open_bracket) (x == ascii.close_bracket) (x == ascii.comma) (k between) in
      omega (arith, here, more between)

  after_token : (t : Token) (m : Mode) → BeginsNone t → IsWithin (Lexeme.token t ∷ k m)
  after_token t m none = omega (arith, more m)

  byte_begins : (m : Mode) (c : Class) → IsWithin (lex_byte m c x xs k)
  byte_begins between quote =
      after_token (string_token (content plain xs)) in_string (string_begins (content plain xs))
  byte_begins between backslash = after_token token.bad in_word refl
  byte_begins between operator = after_operator
  byte_begins between space = goes_on between
  byte_begins between other = after_token (word (x ∷ xs)) in_word (word_begins (x ∷ xs))
  byte_begins in_word quote = goes_on in_word
  byte_begins in_word backslash = goes_on in_word
  byte_begins in_word operator = after_operator
  byte_begins in_word space = goes_on between
  byte_begins in_word other = goes_on in_word
  byte_begins in_string quote = goes_on between
  byte_begins in_string backslash = goes_on in_escape
  byte_begins in_string operator = goes_on in_string
  byte_begins in_string space = goes_on in_string
  byte_begins in_string other = goes_on in_string
  byte_begins in_escape c = goes_on in_string

lex_begins : (m : Mode) (xs : List ℕ) → begun_in (lex m xs) ≤ braces xs
unfolding lex
lex_begins m [] = omega arith
lex_begins m (x ∷ xs) =
    let all = sum_by-cons (λ b. cond (b == ascii.open_brace) 1 0) x xs in
    let here = byte_begins x xs (λ next. lex next xs) (braces xs) (λ n. lex_begins n xs) m (class x)
    in omega (arith, all, here)

-- ---- the rules for commas and colons leave tokens out, and add none that begins an object

module _ (k : Place → List Token) (most : ℕ) (more : (p : Place) → begun (k p) ≤ most) where
  allowed_begins : (b : Bool) (t : Token) (next : Place)
      → begun (if_allowed b t k next) ≤ begun_by t + most
  allowed_begins true t next = omega (arith, more next)
  allowed_begins false t next = omega arith

  place_begins : (p : Place) (t : Token) (b : Bool)
      → begun (place_token p t b k) ≤ begun_by t + most
  place_begins p token.begin_object b = allowed_begins (may_begin p) token.begin_object fresh
  place_begins p token.end_object b = allowed_begins (may_close p) token.end_object after_value
  place_begins p token.begin_array b = allowed_begins (may_begin p) token.begin_array fresh
  place_begins p token.end_array b = allowed_begins (may_close p) token.end_array after_value
  place_begins p (token.key s) b = omega arith
  place_begins p (token.string s) true = allowed_begins (may_begin p) (token.key s) after_key
  place_begins p (token.string s) false = allowed_begins (may_begin p) (token.string s) after_value
  place_begins p (token.number s) b = allowed_begins (may_begin p) (token.number s) after_value
  place_begins p (token.boolean c) b = allowed_begins (may_begin p) (token.boolean c) after_value
  place_begins p token.null b = allowed_begins (may_begin p) token.null after_value
  place_begins p token.bad b = omega arith

punctuate_begins : (p : Place) (ls : List Lexeme) → begun (punctuate p ls) ≤ begun_in ls
unfolding punctuate
punctuate_begins fresh [] = omega arith
punctuate_begins after_value [] = omega arith
punctuate_begins after_comma [] = omega arith
punctuate_begins after_key [] = omega arith
punctuate_begins p (Lexeme.token t ∷ ls) =
    place_begins (λ next. punctuate next ls) (begun_in ls) (λ n. punctuate_begins n ls) p t
    (begins_colon ls)
punctuate_begins fresh (comma ∷ ls) = omega arith
punctuate_begins after_value (comma ∷ ls) = punctuate_begins after_comma ls
punctuate_begins after_comma (comma ∷ ls) = omega arith
punctuate_begins after_key (comma ∷ ls) = omega arith
punctuate_begins fresh (colon ∷ ls) = omega arith
punctuate_begins after_value (colon ∷ ls) = omega arith
punctuate_begins after_comma (colon ∷ ls) = omega arith
punctuate_begins after_key (colon ∷ ls) = punctuate_begins fresh ls

pub tokens_begin : (text : List ℕ) → begun (tokens text) ≤ braces text
tokens_begin text =
    let lexed = lex_begins between text in
    let placed = punctuate_begins fresh (lex between text) in
    omega (arith, lexed, placed)
