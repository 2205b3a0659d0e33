-- Whether a pattern matches a text, as an answer.
use Rattle.std.proofs.Common.{◌≡◌, ℕ, ◌⊎◌, inl, inr, Bool, true, false, ◌&&◌, ◌||◌, not, eqb, cond}
use Rattle.std.proofs.Common.{List, [], ◌∷◌, refl, true≢false, sym, Decides, MatchBool, eqb-true}
use Rattle.std.proofs.Common.{eq-eqb}
use Rattle.std.proofs.lemmas.Bool.Decides.{Decides-and, Decides-like, Decides-not, Decides-or}
use Rattle.std.specs.Str.{chars}
use Rattle.it_glob.specs.Pattern.{Matches, MatchesChars, Takes, items_of}
use Rattle.it_glob.specs.declared.item.Item.{Item}
use Rattle.it_glob.specs.declared.item.Item.TheVariants.{Star, Any, OneOf, Exactly}
use Rattle.it_glob.specs.inside.Ranges.{is_in_some, written_ranges}
use Rattle.it_glob.proofs.Bodies.{written-Decides}
use Rattle.it_glob.proofs.Steps.{MatchesLater, star_over, star_takes}

-- decides `Takes`
abbrev is_taken : Item → ℕ → Bool
is_taken Star c = false
is_taken Any c = true
is_taken (OneOf negated body) c =
    let has = is_in_some (written_ranges body) c in
    cond negated (not has) has
is_taken (Exactly d) c = eqb c d

-- whether what is left passes a test after some first characters, or none
abbrev some_rest : (List ℕ → Bool) → List ℕ → Bool
some_rest test [] = test []
some_rest test (c ∷ cs) = test (c ∷ cs) || some_rest test cs

-- whether the first character passes a test, and the rest another
abbrev first_and_rest : (ℕ → Bool) → (List ℕ → Bool) → List ℕ → Bool
first_and_rest first rest [] = false
first_and_rest first rest (c ∷ cs) = first c && rest cs

abbrev is_nothing : List ℕ → Bool
is_nothing [] = true
is_nothing (c ∷ cs) = false

-- decides `MatchesChars`
abbrev is_match_of_chars : List Item → List ℕ → Bool
is_match_of_chars [] cs = is_nothing cs
is_match_of_chars (Star ∷ items) cs = some_rest (is_match_of_chars items) cs
is_match_of_chars (item ∷ items) cs = first_and_rest (is_taken item) (is_match_of_chars items) cs

-- decides `Matches` for a pattern's text
unfoldable pub is_match : List ℕ → List ℕ → Bool
is_match pattern text = is_match_of_chars (items_of pattern) (chars text)

-- what fails is decided by `false`
pub never : {P : Type 0} → ¬ P → Decides false P
never none = (λ e. absurd (true≢false (sym e)), λ p. absurd (none p))

equal-Decides : (c d : ℕ) → Decides (eqb c d) (c ≡ d)
equal-Decides c d = (eqb-true c d, eq-eqb c d)

either-Decides : {P Q : Type 0} (b r s : Bool) → Decides r P → Decides s Q
    → Decides (cond b r s) (MatchBool b P Q)
either-Decides true r s h k = h
either-Decides false r s h k = k

is_taken-Decides : (item : Item) (c : ℕ) → Decides (is_taken item c) (Takes item c)
is_taken-Decides Star c = never (λ h. h)
is_taken-Decides Any c = (λ _. tt, λ _. refl)
is_taken-Decides (OneOf negated body) c =
    let has = is_in_some (written_ranges body) c in
    either-Decides negated (not has) has (Decides-not has (written-Decides body c))
    (written-Decides body c)
is_taken-Decides (Exactly d) c = equal-Decides c d

some_rest-Decides : (items : List Item) (test : List ℕ → Bool)
    → ((cs : List ℕ) → Decides (test cs) (MatchesChars items cs)) → (cs : List ℕ)
    → Decides (some_rest test cs) (MatchesChars items cs ⊎ MatchesLater items cs)
some_rest-Decides items test each [] =
    Decides-like (test []) inl (λ h. elim h [ inl m ↦ m | inr m ↦ absurd m ]) (each [])
some_rest-Decides items test each (c ∷ cs) = Decides-or (test (c ∷ cs)) (some_rest test cs)
    (each (c ∷ cs)) (some_rest-Decides items test each cs)

first_and_rest-Decides : (First : ℕ → Type 0) (Rest : List ℕ → Type 0) (first : ℕ → Bool)
    (rest : List ℕ → Bool)
    → ((c : ℕ) → Decides (first c) (First c)) → ((cs : List ℕ) → Decides (rest cs) (Rest cs))
    → (cs : List ℕ)
    → Decides (first_and_rest first rest cs) ((c : ℕ) × (left : List ℕ) × (cs ≡ c ∷ left) × First c
    × Rest left)
first_and_rest-Decides First Rest first rest one each [] = never (λ h. let e = h.2 in cc)
first_and_rest-Decides First Rest first rest one each (c ∷ cs) =
    Decides-like (first c && rest cs) (λ h. (c, cs, refl, h.0, h.1))
    (λ h. let head : h.0 ≡ c = cc in let tail : h.1 ≡ cs = cc in (rw head at h.3, rw tail at h.4))
    (Decides-and (first c) (rest cs) (one c) (each cs))

is_match_of_chars-Decides : (items : List Item) (cs : List ℕ) → Decides (is_match_of_chars items cs)
    (MatchesChars items cs)
is_match_of_chars-Decides [] [] = (λ _. refl, λ _. refl)
is_match_of_chars-Decides [] (c ∷ cs) = never (λ e. cc)
is_match_of_chars-Decides (Star ∷ items) cs =
    Decides-like (some_rest (is_match_of_chars items) cs) (star_over items cs) (star_takes items cs)
    (some_rest-Decides items (is_match_of_chars items) (is_match_of_chars-Decides items) cs)
is_match_of_chars-Decides (Any ∷ items) cs =
    first_and_rest-Decides (Takes Any) (MatchesChars items) (is_taken Any) (is_match_of_chars items)
    (is_taken-Decides Any) (is_match_of_chars-Decides items) cs
is_match_of_chars-Decides (OneOf negated body ∷ items) cs =
    first_and_rest-Decides (Takes (OneOf negated body)) (MatchesChars items)
    (is_taken (OneOf negated body)) (is_match_of_chars items)
    (is_taken-Decides (OneOf negated body)) (is_match_of_chars-Decides items) cs
is_match_of_chars-Decides (Exactly d ∷ items) cs =
    first_and_rest-Decides (Takes (Exactly d)) (MatchesChars items) (is_taken (Exactly d))
    (is_match_of_chars items) (is_taken-Decides (Exactly d)) (is_match_of_chars-Decides items)
    cs

-- a text is matched just where the answer says so
pub is_match-Decides : (pattern text : List ℕ) → Decides (is_match pattern text)
    (Matches (items_of pattern) text)
unfolding is_match Matches
is_match-Decides pattern text = is_match_of_chars-Decides (items_of pattern) (chars text)
