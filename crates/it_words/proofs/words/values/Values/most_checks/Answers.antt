use Rattle.std.proofs.Common.{◌≡◌, ◌<◌, ◌∙◌, ◌^◌, ℕ, List, Option, Some, None, Result, refl, sym}
use Rattle.std.proofs.Common.{ap, arith, codes}
use Rattle.std.specs.Str.Parse.{ExplainsUnsignedError, HasUnsignedDigitsIfOk, ParsesUnsigned}
use Rattle.clap.specs.Words.{ReadsOne, Text, found_of, one_of}
use Rattle.clap.proofs.WalkLemmas.{one_text-rows}
use Rattle.it_words.specs.Values.{GivesNumber}
use Rattle.it_words.proofs.words.values.Values.most_checks.Goals as goal

-- the text was read as a number of 64 bits is
record Reads {E : Type 0} (P : List ℕ → Result ℕ E → Type 0) (given : Option Text)
    (found : Option ℕ) : Type 0 where
  none : given ≡ None → found ≡ None
  value : (text : Text) → given ≡ Some text → ReadsOne P text found
  as_number : (text : List ℕ) (result : Result ℕ E) → P text result
      → ParsesUnsigned 64 10 text result

module _ {E : Type 0} (P : List ℕ → Result ℕ E → Type 0) where
  -- a number that was read is the one that is written
  written : (given : Option Text) (found : Option ℕ) → Reads P given found → (number : ℕ)
      → found ≡ Some number → number < 2 ^ 64 → GivesNumber given number
  written None found reads number is fits =
      let bad : None ≡ Some number = sym (reads.none refl) ∙ is in
      cc
  written (Some text) (Some other) reads number is fits =
      let parsed = reads.as_number _ _ (reads.value text refl) in
      let same : other ≡ number = cc in
      record { digits = parsed.0.0; number_is = sym same ∙ parsed.1; fits = fits }
  written (Some text) None reads number is fits = cc

  unread : (given : Option Text) (found : Option ℕ) → Reads P given found → found ≡ None
      → (number : ℕ) → ¬ GivesNumber given number
  unread None found reads none number is = absurd is
  unread (Some text) (Some other) reads none number is = cc
  unread (Some text) None reads none number is =
      let failed = reads.value text refl in
      let same = is.number_is in
      let fits = is.fits in
      absurd (reads.as_number _ _ failed.1 (is.digits, omega arith))

pub returns-in-Some-clause-found : goal.returns-in-Some-clause-found
returns-in-Some-clause-found c =
    let same = one_text-rows (found_of c.self.inside.found.now) _
    ∙ ap (one_of (codes "most-checks")) c.self.view_is in
    written (λ text result. ParsesUnsigned 64 10 text result × ExplainsUnsignedError 10 text result
    × HasUnsignedDigitsIfOk text result) _ c.get_one.result (record {
      none = λ none. c.get_one.ensures.none (same ∙ none);
      value = λ text is. c.get_one.ensures.value text (same ∙ is);
      as_number = λ text result parsed. parsed.0;
    }) _ c.in-Some.is (omega arith)

pub returns-in-None-clause-unfit : goal.returns-in-None-clause-unfit
returns-in-None-clause-unfit c = λ _.
    let same = one_text-rows (found_of c.self.inside.found.now) _
    ∙ ap (one_of (codes "most-checks")) c.self.view_is in
    unread (λ text result. ParsesUnsigned 64 10 text result
    × ExplainsUnsignedError 10 text result × HasUnsignedDigitsIfOk text result) _
    c.get_one.result (record {
      none = λ none. c.get_one.ensures.none (same ∙ none);
      value = λ text is. c.get_one.ensures.value text (same ∙ is);
      as_number = λ text result parsed. parsed.0;
    }) c.in-None.is
