use Rattle.std.proofs.Common.{◌≡◌, ◌≤◌, ◌<◌, ◌∙◌, ℕ, List, Option, Some, None, Result, refl, sym}
use Rattle.std.proofs.Common.{ap, arith, codes, rules}
use Rattle.std.specs.Str.Parse.{ExplainsUnsignedError, HasUnsignedDigitsIfOk, ParsesUnsigned}
use Rattle.clap.specs.Words.{ReadsOne, Text, found_of, one_of}
use Rattle.clap.proofs.WalkLemmas.{one_text-rows}
use Rattle.it_words.specs.Values.{IsDepth}
use Rattle.it_words.proofs.words.values.Values.depth.Goals as goal

-- the text was read as a byte is
record Reads {E : Type 0} (P : List ℕ → Result ℕ E → Type 0) (given : Option Text)
    (found : Option ℕ) : Type 0 where
  none : given ≡ None → found ≡ None
  value : (text : Text) → given ≡ Some text → ReadsOne P text found
  as_byte : (text : List ℕ) (result : Result ℕ E) → P text result → ParsesUnsigned 8 10 text result

module _ {E : Type 0} (P : List ℕ → Result ℕ E → Type 0) where
  -- a number that was read is the depth, where it is at most 8
  written : (given : Option Text) (found : Option ℕ) → Reads P given found → (number : ℕ)
      → found ≡ Some number → number ≤ 8 → IsDepth given number
  written None found reads number is most =
      let bad : None ≡ Some number = sym (reads.none refl) ∙ is in
      cc
  written (Some text) (Some other) reads number is most =
      let parsed = reads.as_byte _ _ (reads.value text refl) in
      let same : other ≡ number = cc in
      record { digits = parsed.0.0; number = sym same ∙ parsed.1; most = most }
  written (Some text) None reads number is most = cc

  -- a depth was read
  read : (given : Option Text) (found : Option ℕ) → Reads P given found → (depth : ℕ)
      → IsDepth given depth → (found ≡ Some depth) × (depth ≤ 8)
  read None found reads depth is = absurd is
  read (Some text) (Some number) reads depth is =
      let parsed = reads.as_byte _ _ (reads.value text refl) in
      let same : number ≡ depth = parsed.1 ∙ sym is.number in
      (cc, is.most)
  read (Some text) None reads depth is =
      let failed = reads.value text refl in
      let same = is.number in
      let most = is.most in
      absurd (reads.as_byte _ _ failed.1 (is.digits, omega arith))

  unread : (given : Option Text) (found : Option ℕ) → Reads P given found → found ≡ None
      → (depth : ℕ) → ¬ IsDepth given depth
  unread given found reads none depth is =
      let bad : None ≡ Some depth = sym none ∙ (read given found reads depth is).0 in
      cc

  deeper : (given : Option Text) (found : Option ℕ) → Reads P given found → (number : ℕ)
      → found ≡ Some number → 8 < number → (depth : ℕ) → ¬ IsDepth given depth
  deeper given found reads number is deep depth shallow =
      let found_is = read given found reads depth shallow in
      let both : Some number ≡ Some depth = sym is ∙ found_is.0 in
      let same : number ≡ depth = cc in
      omega (arith, found_is.1)

pub returns-then-depth-le8-clause-found : goal.returns-then-depth-le8-clause-found
returns-then-depth-le8-clause-found c =
    let same = one_text-rows (found_of c.self.inside.found.now) _
    ∙ ap (one_of (codes "depth")) c.self.view_is in
    written (λ text result. ParsesUnsigned 8 10 text result × ExplainsUnsignedError 10 text result
    × HasUnsignedDigitsIfOk text result) _ c.get_one.result (record {
      none = λ none. c.get_one.ensures.none (same ∙ none);
      value = λ text is. c.get_one.ensures.value text (same ∙ is);
      as_byte = λ text result parsed. parsed.0;
    }) _ c.in-Some.is c.if-depth-le8.true

pub returns-in_default-clause-unfit : goal.returns-in_default-clause-unfit
returns-in_default-clause-unfit c = λ _.
    let same = one_text-rows (found_of c.self.inside.found.now) _
    ∙ ap (one_of (codes "depth")) c.self.view_is in
    unread (λ text result. ParsesUnsigned 8 10 text result
    × ExplainsUnsignedError 10 text result × HasUnsignedDigitsIfOk text result) _
    c.get_one.result (record {
      none = λ none. c.get_one.ensures.none (same ∙ none);
      value = λ text is. c.get_one.ensures.value text (same ∙ is);
      as_byte = λ text result parsed. parsed.0;
    }) (search rules)

pub returns-else-depth-le8-clause-unfit : goal.returns-else-depth-le8-clause-unfit
returns-else-depth-le8-clause-unfit c = λ _.
    let same = one_text-rows (found_of c.self.inside.found.now) _
    ∙ ap (one_of (codes "depth")) c.self.view_is in
    deeper (λ text result. ParsesUnsigned 8 10 text result × ExplainsUnsignedError 10 text result
    × HasUnsignedDigitsIfOk text result) _ c.get_one.result (record {
      none = λ none. c.get_one.ensures.none (same ∙ none);
      value = λ text is. c.get_one.ensures.value text (same ∙ is);
      as_byte = λ text result parsed. parsed.0;
    }) _ c.in-Some.is c.if-depth-le8.false
