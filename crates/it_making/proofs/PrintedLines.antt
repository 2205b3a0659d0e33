-- No line feed stands in what is printed of a text's tokens.
use Rattle.std.proofs.Common.{◌≡◌, ◌∙◌, ℕ, zero, suc, ◌+◌, ◌<◌, ◌==◌, ◌&&◌, ◌||◌, List, []}
use Rattle.std.proofs.Common.{◌∷◌, ◌++◌}
use Rattle.std.proofs.Common.{Bool, true, false, cond, not, Option, Some, None, Contains}
use Rattle.std.proofs.Common.{drop, refl, sym, ap, subst, arith, inl, inr, append_assoc, append-nil}
use Rattle.std.proofs.Common.{⊎_elim, option_and_then}
use Rattle.std.proofs.lemmas.Bool.{and_parts, cases_eq, cases_lt, eqb-true, ne_eqb, or_cases}
use Rattle.std.proofs.lemmas.List.Elements.{Contains-append_cases, Contains-push_cases}
use Rattle.std.specs.Char.{is_ascii_digit}
use Rattle.std.specs.List.{prefix_len}
use Rattle.json.specs.Lex.{tokens}
use Rattle.json.specs.Print.{ArePrintableOrBad, IsNumber, IsPrintableOrBad, escape, escape_byte}
use Rattle.json.specs.Print.{begins, print, ends, print_from, quoted, separator, token_text}
use Rattle.json.specs.Token.{Token, bad, begin_array, begin_object, boolean, end_array, end_object}
use Rattle.json.specs.Token.{key, null, number, string}
use Rattle.json.specs.Word.{after_digits, after_exponent, after_fraction, after_minus, after_number}
use Rattle.json.specs.Word.{after_sign, after_whole, head}
use Rattle.json.proofs.Numbered.{ArePrintableOrBad-tokens}
use Rattle.json.proofs.Printed.Strings.{escape_byte_plain}

-- no byte is a line feed
abbrev is_line : List ℕ → Bool
is_line [] = true
is_line (x ∷ xs) = not (x == 10) && is_line xs

is_line-append : (xs ys : List ℕ) → is_line xs ≡ true → is_line ys ≡ true
    → is_line (xs ++ ys) ≡ true
is_line-append [] ys e f = f
is_line-append (x ∷ xs) ys e f =
    let parts = and_parts _ _ e in
    λ i. parts.0 i && is_line-append xs ys parts.1 f i

-- ---- numbers

-- what is passed from t to r
record Passes (t r : List ℕ) : Type 0 where
  front : List ℕ
  parts : t ≡ front ++ r
  line : is_line front ≡ true

abbrev Leaves : List ℕ → Option (List ℕ) → Type 0
Leaves t None = Unit {0}
Leaves t (Some r) = Passes t r

stays : (t : List ℕ) → Passes t t
stays t = record { front = []; parts = refl; line = refl }

further : (t u : List ℕ) (o : Option (List ℕ)) → Passes t u → Leaves u o → Leaves t o
further t u None first second = tt
further t u (Some r) first second = record {
  front = first.front ++ second.front;
  parts = first.parts ∙ ap (λ rest. first.front ++ rest) second.parts
      ∙ sym (append_assoc first.front second.front r);
  line = is_line-append first.front second.front first.line second.line;
}

either : (t : List ℕ) (b : Bool) (x y : Option (List ℕ)) → (b ≡ true → Leaves t x) → Leaves t y
    → Leaves t (cond b x y)
either t true x y p q = p refl
either t false x y p q = q

optional : (t : List ℕ) (b : Bool) (r : List ℕ) → (b ≡ true → Passes t r) → Passes t (cond b r t)
optional t true r p = p refl
optional t false r p = stays t

-- one byte c is passed
one : (c : ℕ) (t : List ℕ) → (32 == c) ≡ false → not (c == 10) ≡ true → (head t == c) ≡ true
    → Passes t (drop 1 t)
one c [] other is e = absurd (let clash : false ≡ true = sym other ∙ e in cc)
one c (x ∷ t) other is e = record {
  front = x ∷ [];
  parts = refl;
  line = λ i. (ap (λ y. not (y == 10)) (eqb-true x c e) ∙ is) i && true;
}

one_of : (a b : ℕ) (t : List ℕ) → (32 == a) ≡ false → not (a == 10) ≡ true
    → (32 == b) ≡ false → not (b == 10) ≡ true → ((head t == a) || (head t == b)) ≡ true
    → Passes t (drop 1 t)
one_of a b t p q r s e = ⊎_elim (one a t p q) (one b t r s) (or_cases _ _ e)

digit_no_feed : (x : ℕ) → is_ascii_digit x ≡ true → not (x == 10) ≡ true
digit_no_feed x e = ap not (ne_eqb x 10
    (λ same. let clash : false ≡ true = ap is_ascii_digit (sym same) ∙ e in cc))

digit_at : (d : Bool) (x : ℕ) (t : List ℕ) (n : ℕ) → (d ≡ true → not (x == 10) ≡ true)
    → Passes t (drop n t) → Passes (x ∷ t) (drop (cond d (1 + n) 0) (x ∷ t))
digit_at false x t n is rest = stays (x ∷ t)
digit_at true x t n is rest =
    let e : suc n ≡ 1 + n = omega arith in
    subst (λ k. Passes (x ∷ t) (drop k (x ∷ t))) e (record {
      front = x ∷ rest.front;
      parts = ap (λ l. x ∷ l) rest.parts;
      line = λ i. is refl i && rest.line i;
    })

digit_run : (t : List ℕ) → Passes t (drop (prefix_len is_ascii_digit t) t)
digit_run [] = stays []
digit_run (x ∷ t) = digit_at (is_ascii_digit x) x t _ (digit_no_feed x) (digit_run t)

digits : (t : List ℕ) → Leaves t (after_digits t)
digits t = either t (prefix_len is_ascii_digit t == 0) None _ (λ e. tt) (digit_run t)

fraction : (t : List ℕ) → Leaves t (after_fraction t)
fraction t = either t (head t == 46) _ (Some t)
    (λ e. further t (drop 1 t) _ (one 46 t refl refl e) (digits (drop 1 t))) (stays t)

exponent : (t : List ℕ) → Leaves t (after_exponent t)
exponent t =
    let u = drop 1 t in
    either t _ _ (Some t) (λ e. further t u _ (one_of 101 69 t refl refl refl refl e)
    (further u (after_sign u) _ (optional u _ _ (one_of 45 43 u refl refl refl refl))
    (digits (after_sign u)))) (stays t)

whole : (t : List ℕ) → Leaves t (after_whole t)
whole t = either t (head t == 48) _ _ (one 48 t refl refl) (digits t)

then : (t : List ℕ) (f : List ℕ → Option (List ℕ)) → ((u : List ℕ) → Leaves u (f u))
    → (o : Option (List ℕ)) → Leaves t o → Leaves t (option_and_then f o)
then t f each None passes = tt
then t f each (Some r) passes = further t r (f r) passes (each r)

number_leaves : (t : List ℕ) → Leaves t (after_number t)
unfolding after_number
number_leaves t = then t after_exponent exponent _ (then t after_fraction fraction _
    (further t (after_minus t) _ (optional t _ _ (one 45 t refl refl)) (whole (after_minus t))))

number_line : (s : List ℕ) → IsNumber s → is_line s ≡ true
number_line s is =
    let passes = subst (Leaves s) is (number_leaves s) in
    ap is_line (passes.parts ∙ append-nil passes.front) ∙ passes.line

-- ---- strings

-- each escape of a byte below n is one
abbrev lines_below : ℕ → Bool
lines_below zero = true
lines_below (suc n) = is_line (escape_byte n) && lines_below n

line_below : (n : ℕ) → lines_below n ≡ true → (x : ℕ) → x < n → is_line (escape_byte x) ≡ true
line_below zero e x h = absurd (omega arith)
line_below (suc n) e x h =
    let parts = and_parts _ _ e in
    elim (cases_eq x n) [
      | inl same ↦ rw same parts.0
      | inr other ↦ line_below n parts.1 x (omega arith)
    ]

all_below : lines_below 93 ≡ true
unfolding escape_byte
all_below = refl

byte_line : (x : ℕ) → is_line (escape_byte x) ≡ true
byte_line x = elim (cases_lt x 93) [
  | inl small ↦ line_below 93 all_below x small
  | inr big ↦
      ap is_line (escape_byte_plain x (λ e. omega arith) (λ e. omega arith) (omega arith))
      ∙ ap (λ b. not b && true) (ne_eqb x 10 (λ e. omega arith))
]

escape_line : (s : List ℕ) → is_line (escape s) ≡ true
escape_line [] = refl
escape_line (x ∷ s) = is_line-append (escape_byte x) (escape s) (byte_line x) (escape_line s)

quoted_line : (s : List ℕ) → is_line (quoted s) ≡ true
quoted_line s = is_line-append (escape s) (34 ∷ []) (escape_line s) refl

-- ---- tokens

token_line : (t : Token) → IsPrintableOrBad t → is_line (token_text t) ≡ true
token_line begin_object h = refl
token_line end_object h = refl
token_line begin_array h = refl
token_line end_array h = refl
token_line (key s) h = is_line-append (quoted s) (58 ∷ []) (quoted_line s) refl
token_line (string s) h = quoted_line s
token_line (number s) h = number_line s h
token_line (boolean true) h = refl
token_line (boolean false) h = refl
token_line null h = refl
token_line bad h = refl

comma_line : (b : Bool) → is_line (cond b (44 ∷ []) []) ≡ true
comma_line true = refl
comma_line false = refl

print_line : (later : Bool) (ts : List Token) → ArePrintableOrBad ts
    → is_line (print_from later ts) ≡ true
unfolding print_from
print_line later [] h = refl
print_line later (t ∷ ts) h =
    is_line-append (separator later t) _ (comma_line (later && begins t))
    (is_line-append (token_text t) _ (token_line t h.0) (print_line (ends t) ts h.1))

no_feed : (xs : List ℕ) → is_line xs ≡ true → ¬ Contains xs 10
no_feed [] e there = absurd (omega (arith, there.1))
no_feed (x ∷ xs) e there =
    let parts = and_parts _ _ e in
    ⊎_elim (λ first. ⊎_elim (λ none. absurd (omega (arith, none.1)))
    (λ same. let clash : false ≡ true = ap (λ y. not (y == 10)) (sym same) ∙ parts.0 in cc)
    (Contains-push_cases [] x 10 first))
    (no_feed xs parts.1) (Contains-append_cases (x ∷ []) xs 10 there)

-- a text that is printed of its tokens is one line
pub one_line : (text : List ℕ) → text ≡ print (tokens text) → ¬ Contains text 10
one_line text is = subst (λ s. ¬ Contains s 10) (sym is)
    (no_feed (print (tokens text)) (print_line false (tokens text) (ArePrintableOrBad-tokens text)))
