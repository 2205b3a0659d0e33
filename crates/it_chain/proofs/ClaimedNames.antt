-- Which step a file's name claims the file for.
use Rattle.std.proofs.Common.{◌≡◌, ◌≢◌, ◌∙◌, ◌==◌, ◌+◌, ◌-◌, ℕ, List, [], ◌∷◌, ◌++◌, Option, Some}
use Rattle.std.proofs.Common.{None, Bor, MatchOption, Contains, codes, length, take, drop, sym, ap}
use Rattle.std.proofs.Common.{refl, subst, append_assoc, lit<}
use Rattle.std.specs.Str.{NoCharPasses}
use Rattle.std.specs.Str.Pattern.{FindsTextSuffix, RFindsChar, SplitsAroundMatch}
use Rattle.std.proofs.lemmas.Grind.{get_or_default_zero}
use Rattle.std.proofs.lemmas.List.{append_cancel_right, take-append-drop}
use Rattle.std.proofs.lemmas.List.Elements.{Contains-append_right}
use Rattle.std.proofs.lemmas.Option.{MatchOption-at_none, MatchOption-at_some}
use Rattle.std.proofs.lemmas.Str.Pattern.{NoCharPasses-char, drop_at_char}
use Rattle.it_chain.specs.ClaimedFiles.{IsClaimed}
use Rattle.it_chain.proofs.Members.{in_head}

-- the text before a suffix
before_suffix : (suffix text : List ℕ) (found : Option (Bor (List ℕ)))
    → MatchOption found (FindsTextSuffix suffix text None) (λ x. (n : ℕ)
    × FindsTextSuffix suffix text (Some n) × (x.now ≡ take (length text - n) text)
    × (length x.now + n ≡ length text))
    → MatchOption found ((front : List ℕ) → text ≢ front ++ suffix) (λ x. text ≡ x.now ++ suffix)
before_suffix suffix text None h = h
before_suffix suffix text (Some x) h = h.1.1 ∙ ap (λ front. front ++ suffix) (sym h.2)

without : (text : List ℕ) → NoCharPasses (λ d. d == 46) text → ¬ Contains text 46
without text none h = NoCharPasses-char 46 text h.0 none (lit< tt) h.1
    (sym (get_or_default_zero text h.0 46 h.1) ∙ h.2)

-- the texts before and after the last full stop
around_last : (text : List ℕ) (found : Option (Bor (List ℕ) × Bor (List ℕ)))
    → MatchOption found (RFindsChar 46 text None)
    (λ x. SplitsAroundMatch (RFindsChar 46) text x.0.now x.1.now)
    → MatchOption found (¬ Contains text 46) (λ x. (text ≡ x.0.now ++ 46 ∷ x.1.now)
    × ¬ Contains x.1.now 46)
around_last text None h = without text h
around_last text (Some x) h = (
  sym (take-append-drop h.0 text) ∙ ap (λ back. take h.0 text ++ back)
      (drop_at_char 46 text h.0 h.1 h.2.1 (lit< tt)) ∙ (λ i. sym h.3 i ++ 46 ∷ sym h.4 i),
  λ c. without (drop h.1 text) h.2.0 (subst (λ back. Contains back 46) h.4 c),
)

-- what the calls that find them answer
pub front_of : (name : List ℕ) (found : Option (Bor (List ℕ))) (front : Bor (List ℕ))
    → found ≡ Some front
    → MatchOption found (FindsTextSuffix (codes ".link") name None) (λ x. (n : ℕ)
    × FindsTextSuffix (codes ".link") name (Some n) × (x.now ≡ take (length name - n) name)
    × (length x.now + n ≡ length name))
    → name ≡ front.now ++ codes ".link"
front_of name found front is h = MatchOption-at_some ((text : List ℕ) → name ≢ text
    ++ codes ".link") (λ (x : Bor (List ℕ)). name ≡ x.now ++ codes ".link") front is
    (before_suffix (codes ".link") name found h)

module _ (text : List ℕ) (found : Option (Bor (List ℕ) × Bor (List ℕ)))
    (split : MatchOption found (RFindsChar 46 text None)
    (λ x. SplitsAroundMatch (RFindsChar 46) text x.0.now x.1.now)) where
  pub no_parts : found ≡ None → ¬ Contains text 46
  no_parts is = MatchOption-at_none (¬ Contains text 46)
      (λ (x : Bor (List ℕ) × Bor (List ℕ)). (text ≡ x.0.now ++ 46 ∷ x.1.now)
      × ¬ Contains x.1.now 46) is (around_last text found split)

  pub parts_of : (parts : Bor (List ℕ) × Bor (List ℕ)) → found ≡ Some parts
      → (text ≡ parts.0.now ++ 46 ∷ parts.1.now) × ¬ Contains parts.1.now 46
  parts_of parts is = MatchOption-at_some (¬ Contains text 46)
      (λ (x : Bor (List ℕ) × Bor (List ℕ)). (text ≡ x.0.now ++ 46 ∷ x.1.now)
      × ¬ Contains x.1.now 46) parts is (around_last text found split)

-- what stands before and after a last full stop is one text each
last_stop : (a b x y : List ℕ) → a ++ 46 ∷ x ≡ b ++ 46 ∷ y → ¬ Contains x 46 → ¬ Contains y 46
    → (a ≡ b) × (x ≡ y)
last_stop [] [] x y e none none' = (refl, cc)
last_stop [] (d ∷ b) x y e none none' = let rest : x ≡ b ++ 46 ∷ y = cc in
    absurd (none (subst (λ z. Contains z 46) (sym rest)
    (Contains-append_right b (46 ∷ y) 46 (in_head 46 y))))
last_stop (c ∷ a) [] x y e none none' = let rest : a ++ 46 ∷ x ≡ y = cc in
    absurd (none' (subst (λ z. Contains z 46) rest
    (Contains-append_right a (46 ∷ x) 46 (in_head 46 x))))
last_stop (c ∷ a) (d ∷ b) x y e none none' =
    let head : c ≡ d = cc in
    let tail : a ++ 46 ∷ x ≡ b ++ 46 ∷ y = cc in
    let rest = last_stop a b x y tail none none' in
    (λ i. head i ∷ rest.0 i, rest.1)

-- what stands before the ending of a name that claims a file
before_ending : (step name front : List ℕ) → name ≡ front ++ codes ".link"
    → (h : IsClaimed step name) → front ≡ step ++ 46 ∷ h.middle
before_ending step name front e h = append_cancel_right front (step ++ codes "." ++ h.middle)
    (codes ".link") (sym e ∙ h.name_is) ∙ append_assoc step (codes ".") h.middle

module _ (name front : List ℕ) (ending : name ≡ front ++ codes ".link") where
  pub no_stop : ¬ Contains front 46 → (step : List ℕ) → ¬ IsClaimed step name
  no_stop none step h =
      none (subst (λ text. Contains text 46) (sym (before_ending step name front ending h))
      (Contains-append_right step (46 ∷ h.middle) 46 (in_head 46 h.middle)))

  module _ (step middle : List ℕ) (stop : front ≡ step ++ 46 ∷ middle)
      (last : ¬ Contains middle 46) where
    pub nothing_between : middle ≡ [] → (other : List ℕ) → ¬ IsClaimed other name
    nothing_between none other h =
        h.not_empty (sym
        ((last_stop step other middle h.middle (sym stop ∙ before_ending other name front ending h)
        last h.no_stop).1) ∙ none)

    pub claims_for : middle ≢ [] → IsClaimed step name
    claims_for some = record {
      middle = middle;
      name_is = ending ∙ ap (λ text. text ++ codes ".link")
          (stop ∙ sym (append_assoc step (codes ".") middle));
      not_empty = some;
      no_stop = last;
    }

-- a name claims a file for one step at most
pub one_step : (name a b : List ℕ) → IsClaimed a name → IsClaimed b name → a ≡ b
one_step name a b h k = (last_stop a b h.middle k.middle
    (sym (before_ending a name (a ++ codes "." ++ h.middle) h.name_is h)
    ∙ before_ending b name (a ++ codes "." ++ h.middle) h.name_is k) h.no_stop k.no_stop).0
