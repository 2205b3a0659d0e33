-- A line feed after a text changes no word and no string of it.
use Rattle.std.proofs.Common.{◌≡◌, ℕ, ◌+◌, ◌-◌, ◌≤◌, ◌==◌, ◌&&◌, ◌||◌, List, [], ◌∷◌, ◌++◌, length, take, drop}
use Rattle.std.proofs.Common.{Bool, true, false, cond, nat_eq, Option, Some, None, option_map}
use Rattle.std.proofs.Common.{option_and_then, refl, sym, ap, ◌∙◌, arith, length-append}
use Rattle.std.specs.Char.{encode_utf8, is_ascii_digit}
use Rattle.std.specs.Cmp.Lexicographic.{pointwise}
use Rattle.std.specs.List.{AllByRecursion, prefix_len}
use Rattle.std.proofs.lemmas.List.{drop-append-le, take-append-le}
use Rattle.std.proofs.lemmas.List.Sums.{prefix_len-le-length}
use Rattle.json.specs.Ascii as ascii
use Rattle.json.specs.Text.{Within, plain, after_backslash, after_u, after_high, code_unit, content}
use Rattle.json.specs.Text.{is_high_surrogate, is_low_surrogate, prepend, short_escape}
use Rattle.json.specs.Text.{surrogate_pair}
use Rattle.json.specs.Token.{Token, bad, boolean, null, number}
use Rattle.json.specs.Word.{after_digits, after_exponent, after_fraction, after_minus, after_number}
use Rattle.json.specs.Word.{after_sign, after_whole, ends_word, head, literal, number_before, word}

abbrev pub feed : List ℕ
feed = 10 ∷ []

-- ---- strings

and_false : (b : Bool) → (b && false) ≡ false
and_false true = refl
and_false false = refl

no_unit : (a b c : ℕ) → code_unit a b c 10 ≡ None
unfolding code_unit
no_unit a b c = rw (and_false _) refl

same_branches : {X : Type 0} (b : Bool) (x : X) → cond b x x ≡ x
same_branches true x = refl
same_branches false x = refl

pub content_feed : (w : Within) (xs : List ℕ) → content w (xs ++ feed) ≡ content w xs
unfolding content short_escape
content_feed plain [] = refl
content_feed plain (x ∷ xs) = rw (content_feed after_backslash xs, content_feed plain xs) refl
content_feed after_backslash [] = refl
content_feed after_backslash (x ∷ xs) = rw (content_feed after_u xs, content_feed plain xs) refl
content_feed after_u [] = refl
content_feed after_u (a ∷ []) = refl
content_feed after_u (a ∷ b ∷ []) = refl
content_feed after_u (a ∷ b ∷ c ∷ []) = rw (no_unit a b c) refl
content_feed after_u (a ∷ b ∷ c ∷ d ∷ xs) = λ i. option_and_then
    (λ u. cond (is_high_surrogate u) (content_feed (after_high u) xs i)
    (cond (is_low_surrogate u) None (prepend (encode_utf8 u) (content_feed plain xs i))))
    (code_unit a b c d)
content_feed (after_high h) [] = refl
content_feed (after_high h) (s ∷ []) = refl
content_feed (after_high h) (s ∷ u ∷ []) = refl
content_feed (after_high h) (s ∷ u ∷ a ∷ []) = refl
content_feed (after_high h) (s ∷ u ∷ a ∷ b ∷ []) = refl
content_feed (after_high h) (s ∷ u ∷ a ∷ b ∷ c ∷ []) = rw (no_unit a b c, same_branches) refl
content_feed (after_high h) (s ∷ u ∷ a ∷ b ∷ c ∷ d ∷ xs) = λ i.
    cond ((s == ascii.backslash) && (u == ascii.lower_u))
    (option_and_then (λ l. cond (is_low_surrogate l) (prepend (encode_utf8 (surrogate_pair h l))
    (content_feed plain xs i)) None) (code_unit a b c d)) None

-- ---- numbers

-- what follows, with the line feed
abbrev fed : Option (List ℕ) → Option (List ℕ)
fed = option_map (λ rest. rest ++ feed)

cond_fed : (b : Bool) (o p : Option (List ℕ)) → cond b (fed o) (fed p) ≡ fed (cond b o p)
cond_fed true o p = refl
cond_fed false o p = refl

cond_feed : (b : Bool) (r s : List ℕ) → cond b (r ++ feed) (s ++ feed) ≡ cond b r s ++ feed
cond_feed true r s = refl
cond_feed false r s = refl

then_fed : (f : List ℕ → Option (List ℕ)) → ((r : List ℕ) → f (r ++ feed) ≡ fed (f r))
    → (o : Option (List ℕ)) → option_and_then f (fed o) ≡ fed (option_and_then f o)
then_fed f each None = refl
then_fed f each (Some r) = each r

prefix_len-feed : (t : List ℕ) → prefix_len is_ascii_digit (t ++ feed) ≡ prefix_len is_ascii_digit t
prefix_len-feed [] = refl
prefix_len-feed (x ∷ t) = ap (λ n. cond (is_ascii_digit x) (1 + n) 0) (prefix_len-feed t)

after_digits-feed : (t : List ℕ) → after_digits (t ++ feed) ≡ fed (after_digits t)
after_digits-feed t =
    let n = prefix_len is_ascii_digit t in
    ap (λ m. cond (m == 0) None (Some (drop m (t ++ feed)))) (prefix_len-feed t)
    ∙ ap (λ rest. cond (n == 0) None (Some rest))
    (drop-append-le n t feed (prefix_len-le-length is_ascii_digit t))
    ∙ cond_fed (n == 0) None (Some (drop n t))

after_minus-feed : (t : List ℕ) → after_minus (t ++ feed) ≡ after_minus t ++ feed
after_minus-feed [] = refl
after_minus-feed (x ∷ t) = cond_feed (x == ascii.minus) t (x ∷ t)

after_sign-feed : (t : List ℕ) → after_sign (t ++ feed) ≡ after_sign t ++ feed
after_sign-feed [] = refl
after_sign-feed (x ∷ t) = cond_feed ((x == ascii.minus) || (x == ascii.plus)) t (x ∷ t)

after_whole-feed : (t : List ℕ) → after_whole (t ++ feed) ≡ fed (after_whole t)
after_whole-feed [] = refl
after_whole-feed (x ∷ t) =
    ap (λ o. cond (x == ascii.zero) (Some (t ++ feed)) o) (after_digits-feed (x ∷ t))
    ∙ cond_fed (x == ascii.zero) (Some t) (after_digits (x ∷ t))

after_fraction-feed : (t : List ℕ) → after_fraction (t ++ feed) ≡ fed (after_fraction t)
after_fraction-feed [] = refl
after_fraction-feed (x ∷ t) =
    ap (λ o. cond (x == ascii.dot) o (Some (x ∷ t ++ feed))) (after_digits-feed t)
    ∙ cond_fed (x == ascii.dot) (after_digits t) (Some (x ∷ t))

after_exponent-feed : (t : List ℕ) → after_exponent (t ++ feed) ≡ fed (after_exponent t)
after_exponent-feed [] = refl
after_exponent-feed (x ∷ t) =
    let marked = (x == ascii.lower_e) || (x == ascii.upper_e) in
    ap (λ o. cond marked o (Some (x ∷ t ++ feed)))
    (ap after_digits (after_sign-feed t) ∙ after_digits-feed (after_sign t))
    ∙ cond_fed marked (after_digits (after_sign t)) (Some (x ∷ t))

after_number-feed : (t : List ℕ) → after_number (t ++ feed) ≡ fed (after_number t)
unfolding after_number
after_number-feed t =
    ap (λ r. option_and_then after_exponent (option_and_then after_fraction (after_whole r)))
    (after_minus-feed t)
    ∙ ap (λ o. option_and_then after_exponent (option_and_then after_fraction o))
    (after_whole-feed (after_minus t))
    ∙ ap (option_and_then after_exponent)
    (then_fed after_fraction after_fraction-feed (after_whole (after_minus t)))
    ∙ then_fed after_exponent after_exponent-feed
    (option_and_then after_fraction (after_whole (after_minus t)))

ends_word-feed : (r : List ℕ) → ends_word (r ++ feed) ≡ ends_word r
ends_word-feed [] = refl
ends_word-feed (x ∷ r) = refl

number_text-feed : (t r : List ℕ) → take (length (t ++ feed) - length (r ++ feed)) (t ++ feed)
    ≡ take (length t - length r) t
number_text-feed t r =
    let shorter : length t - length r ≤ length t = omega arith in
    let same : length (t ++ feed) - length (r ++ feed) ≡ length t - length r =
    omega (arith, length-append t feed, length-append r feed) in
    ap (λ n. take n (t ++ feed)) same ∙ take-append-le (length t - length r) t feed shorter

number_before-feed : (t : List ℕ) (o : Option (List ℕ))
    → number_before (t ++ feed) (fed o) ≡ number_before t o
number_before-feed t None = refl
number_before-feed t (Some r) =
    ap (λ b. cond b (number (take (length (t ++ feed) - length (r ++ feed)) (t ++ feed))) bad)
    (ends_word-feed r)
    ∙ ap (λ s. cond (ends_word r) (number s) bad) (number_text-feed t r)

-- ---- literals

abbrev stands : List ℕ → List ℕ → Bool
stands name t = pointwise nat_eq name (take (length name) t) && ends_word (drop (length name) t)

and_false_first : (b c : Bool) → b ≡ false → (b && c) ≡ false
and_false_first true c e = absurd (cc)
and_false_first false c e = refl

under : (b c d e f : Bool) → (c && d) ≡ (e && f) → ((b && c) && d) ≡ ((b && e) && f)
under true c d e f same = same
under false c d e f same = refl

stands-feed : (name t : List ℕ) → AllByRecursion (λ c. nat_eq c 10 ≡ false) name
    → stands name (t ++ feed) ≡ stands name t
stands-feed [] t h = ends_word-feed t
stands-feed (c ∷ name) [] h =
    and_false_first _ _ (and_false_first (nat_eq c 10) (pointwise nat_eq name (take (length name) []))
    h.0)
stands-feed (c ∷ name) (x ∷ t) h = under (nat_eq c x) _ _ _ _ (stands-feed name t h.1)

literal-feed : (name : List ℕ) (token : Token) (t : List ℕ)
    → AllByRecursion (λ c. nat_eq c 10 ≡ false) name
    → literal name token (t ++ feed) ≡ literal name token t
literal-feed name token t h = ap (λ b. cond b token bad) (stands-feed name t h)

head-feed : (c : ℕ) (t : List ℕ) → (10 == c) ≡ false → (32 == c) ≡ false
    → (head (t ++ feed) == c) ≡ (head t == c)
head-feed c [] feed_other space_other = feed_other ∙ sym space_other
head-feed c (x ∷ t) feed_other space_other = refl

pub word_feed : (t : List ℕ) → word (t ++ feed) ≡ word t
unfolding word
word_feed t =
    rw (
      head-feed ascii.lower_t t refl refl,
      head-feed ascii.lower_f t refl refl,
      head-feed ascii.lower_n t refl refl,
      literal-feed ascii.true_text (boolean true) t (refl, (refl, (refl, (refl, tt)))),
      literal-feed ascii.false_text (boolean false) t (refl, (refl, (refl, (refl, (refl, tt))))),
      literal-feed ascii.null_text null t (refl, (refl, (refl, (refl, tt)))),
      after_number-feed t,
      number_before-feed t (after_number t),
    ) refl
