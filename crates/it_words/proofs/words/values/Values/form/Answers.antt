use Rattle.std.proofs.Common.{◌≡◌, ◌≢◌, ◌<◌, ◌∙◌, ◌^◌, ℕ, List, Option, Some, None, Result, Ok, Err}
use Rattle.std.proofs.Common.{refl, sym, ap, arith, codes, rules}
use Rattle.std.specs.Str.Parse.{ExplainsUnsignedError, HasUnsignedDigitsIfOk, ParsesUnsigned}
use Rattle.clap.specs.Matches.{TriesOne}
use Rattle.clap.specs.Words.{Text, found_of, one_of}
use Rattle.clap.proofs.WalkLemmas.{one_text-rows}
use Rattle.it_words.specs.Values.{GivesNumber, IsForm}
use Rattle.it_words.specs.declared.words.form.Form.{Form}
use Rattle.it_words.specs.declared.words.form.Form.TheVariants.{Lines, Json, Full}
use Rattle.it_words.proofs.words.values.Values.form.Goals as goal

-- the text was read as a byte is
record Tries {E : Type 0} (P : List ℕ → Result ℕ E → Type 0) (given : Option Text)
    (found : Result (Option ℕ) E) : Type 0 where
  none : given ≡ None → found ≡ Ok None
  value : (text : Text) → given ≡ Some text → TriesOne P text found
  as_byte : (text : List ℕ) (result : Result ℕ E) → P text result → ParsesUnsigned 8 10 text result

module _ {E : Type 0} (P : List ℕ → Result ℕ E → Type 0) where
  -- where no number was found, none is given
  absent : (given : Option Text) (found : Result (Option ℕ) E) → Tries P given found
      → found ≡ Ok None → given ≡ None
  absent None found tries is = refl
  absent (Some text) (Ok None) tries is = absurd (tries.value text refl)
  absent (Some text) (Ok (Some number)) tries is = cc
  absent (Some text) (Err error) tries is = cc

  -- a number that was found is given
  written : (given : Option Text) (found : Result (Option ℕ) E) → Tries P given found
      → (number : ℕ) → found ≡ Ok (Some number) → number < 2 ^ 64 → GivesNumber given number
  written None found tries number is fits =
      let bad : Ok None ≡ Ok (Some number) = sym (tries.none refl) ∙ is in
      cc
  written (Some text) (Ok None) tries number is fits = absurd (tries.value text refl)
  written (Some text) (Err error) tries number is fits = cc
  written (Some text) (Ok (Some other)) tries number is fits =
      let parsed = tries.as_byte _ _ (tries.value text refl) in
      let same : other ≡ number = cc in
      record { digits = parsed.0.0; number_is = sym same ∙ parsed.1; fits = fits }

  -- a number of a byte that is given was found
  read : (given : Option Text) (found : Result (Option ℕ) E) → Tries P given found
      → (number : ℕ) → number < 2 ^ 8 → GivesNumber given number → found ≡ Ok (Some number)
  read None found tries number small is = absurd is
  read (Some text) (Ok None) tries number small is = absurd (tries.value text refl)
  read (Some text) (Ok (Some other)) tries number small is =
      let parsed = tries.as_byte _ _ (tries.value text refl) in
      let same : other ≡ number = parsed.1 ∙ sym is.number_is in
      cc
  read (Some text) (Err error) tries number small is =
      let same = is.number_is in
      absurd (tries.as_byte _ _ (tries.value text refl) (is.digits, omega arith))

  -- a number that was found is given under this name
  written_as : (given : Option Text) (found : Result (Option ℕ) E) → Tries P given found
      → (number form : ℕ) → found ≡ Ok (Some number) → number ≡ form → form < 2 ^ 64
      → GivesNumber given form
  written_as given found tries number form is same fits =
      written given found tries form (is ∙ ap (λ n. Ok (Some n)) same) fits

  -- a number that was found is that of no form
  other : (given : Option Text) (found : Result (Option ℕ) E) → Tries P given found
      → (number : ℕ) → found ≡ Ok (Some number) → number ≢ 1 → number ≢ 2
      → (form : Form) → ¬ IsForm given form
  other given found tries number is one two Lines none =
      let bad : Ok (Some number) ≡ Ok None = sym is ∙ tries.none none in
      cc
  other given found tries number is one two Json gives =
      let both : Ok (Some number) ≡ Ok (Some 1) =
      sym is ∙ read given found tries 1 (omega arith) gives in
      let same : number ≡ 1 = cc in
      one same
  other given found tries number is one two Full gives =
      let both : Ok (Some number) ≡ Ok (Some 2) =
      sym is ∙ read given found tries 2 (omega arith) gives in
      let same : number ≡ 2 = cc in
      two same

  -- what is given is no number
  unread : (given : Option Text) (found : Result (Option ℕ) E) → Tries P given found
      → (error : E) → found ≡ Err error → (form : Form) → ¬ IsForm given form
  unread given found tries error is Lines none =
      let bad = tries.none none in
      cc
  unread given found tries error is Json gives =
      let bad = read given found tries 1 (omega arith) gives in
      cc
  unread given found tries error is Full gives =
      let bad = read given found tries 2 (omega arith) gives in
      cc

pub returns-in-Ok-None-clause-found : goal.returns-in-Ok-None-clause-found
returns-in-Ok-None-clause-found c =
    let same = one_text-rows (found_of c.self.inside.found.now) _
    ∙ ap (one_of (codes "json")) c.self.view_is in
    absent (λ text result. ParsesUnsigned 8 10 text result × ExplainsUnsignedError 10 text result
    × HasUnsignedDigitsIfOk text result) _ c.try_get_one.result (record {
      none = λ none. c.try_get_one.ensures.none (same ∙ none);
      value = λ text is. c.try_get_one.ensures.value text (same ∙ is);
      as_byte = λ text result parsed. parsed.0;
    }) (search rules)

pub returns-then-number-eq1-clause-found : goal.returns-then-number-eq1-clause-found
returns-then-number-eq1-clause-found c =
    let same = one_text-rows (found_of c.self.inside.found.now) _
    ∙ ap (one_of (codes "json")) c.self.view_is in
    written_as (λ text result. ParsesUnsigned 8 10 text result × ExplainsUnsignedError 10 text result
    × HasUnsignedDigitsIfOk text result) _ c.try_get_one.result (record {
      none = λ none. c.try_get_one.ensures.none (same ∙ none);
      value = λ text is. c.try_get_one.ensures.value text (same ∙ is);
      as_byte = λ text result parsed. parsed.0;
    }) c.in-Ok-Some.number 1 (search rules) c.if-number-eq1.true (omega arith)

pub returns-then-number-eq2-clause-found : goal.returns-then-number-eq2-clause-found
returns-then-number-eq2-clause-found c =
    let same = one_text-rows (found_of c.self.inside.found.now) _
    ∙ ap (one_of (codes "json")) c.self.view_is in
    written_as (λ text result. ParsesUnsigned 8 10 text result × ExplainsUnsignedError 10 text result
    × HasUnsignedDigitsIfOk text result) _ c.try_get_one.result (record {
      none = λ none. c.try_get_one.ensures.none (same ∙ none);
      value = λ text is. c.try_get_one.ensures.value text (same ∙ is);
      as_byte = λ text result parsed. parsed.0;
    }) c.in-Ok-Some.number 2 (search rules) c.if-number-eq2.true (omega arith)

pub returns-else-number-eq2-clause-unfit : goal.returns-else-number-eq2-clause-unfit
returns-else-number-eq2-clause-unfit c = λ _.
    let same = one_text-rows (found_of c.self.inside.found.now) _
    ∙ ap (one_of (codes "json")) c.self.view_is in
    other (λ text result. ParsesUnsigned 8 10 text result × ExplainsUnsignedError 10 text result
    × HasUnsignedDigitsIfOk text result) _ c.try_get_one.result (record {
      none = λ none. c.try_get_one.ensures.none (same ∙ none);
      value = λ text is. c.try_get_one.ensures.value text (same ∙ is);
      as_byte = λ text result parsed. parsed.0;
    }) c.in-Ok-Some.number (search rules) c.if-number-eq1.false
    c.if-number-eq2.false

pub returns-in-Err-clause-unfit : goal.returns-in-Err-clause-unfit
returns-in-Err-clause-unfit c = λ _.
    let same = one_text-rows (found_of c.self.inside.found.now) _
    ∙ ap (one_of (codes "json")) c.self.view_is in
    unread (λ text result. ParsesUnsigned 8 10 text result × ExplainsUnsignedError 10 text result
    × HasUnsignedDigitsIfOk text result) _ c.try_get_one.result (record {
      none = λ none. c.try_get_one.ensures.none (same ∙ none);
      value = λ text is. c.try_get_one.ensures.value text (same ∙ is);
      as_byte = λ text result parsed. parsed.0;
    }) _ c.in-Err.is
