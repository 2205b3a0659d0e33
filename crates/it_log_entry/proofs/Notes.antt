-- The lines of a signed note.
use Rattle.std.proofs.Common.{◌≡◌, ◌∙◌, ℕ, ◌+◌, ◌<◌, ◌==◌, List, [], ◌∷◌, ◌++◌, Bool, true, false}
use Rattle.std.proofs.Common.{Some, None, refl, sym, ap, length, take, drop, get_or, drop-cons}
use Rattle.std.proofs.Common.{arith, add-one}
use Rattle.std.specs.Borrow.{Bor}
use Rattle.std.specs.List.{position}
use Rattle.std.proofs.lemmas.Bool.Decides.{Decides-eqb}
use Rattle.std.proofs.lemmas.List.{append_cancel_right, drop-map, get_or-take, get_or_default}
use Rattle.std.proofs.lemmas.List.{length-take, take-append-drop, take-map}
use Rattle.std.proofs.lemmas.List.Quantifiers.{position-Some}
use Rattle.it_log_entry.specs.Note.{AreLines}
use Rattle.it_log_entry.specs.inside.Lines.{IsCutAtEmpty, texts_of}
use Rattle.it_log_entry.proofs.First.{first_shown, no_first, same_cut}

-- a text has one list of lines at most
pub same_lines : (text : List ℕ) (lines others : List (List ℕ)) → AreLines text lines
    → AreLines text others → lines ≡ others
same_lines text lines others is other =
    append_cancel_right lines others ([] ∷ []) (sym is ∙ other)

-- tests of emptiness
full_fails : (line : List ℕ) → 0 < length line → (length line == 0) ≡ false
full_fails line full = by_test (length line == 0) (Decides-eqb (length line) 0).0
  where
    by_test : (b : Bool) → (b ≡ true → length line ≡ 0) → b ≡ false
    by_test true is = let none = is refl in absurd (omega arith)
    by_test false is = refl

no_bytes : (line : List ℕ) → length line ≡ 0 → line ≡ []
no_bytes [] none = refl
no_bytes (byte ∷ rest) none = absurd (omega arith)

empty_is : (line : List ℕ) → (length line == 0) ≡ true → line ≡ []
empty_is line passes = no_bytes line ((Decides-eqb (length line) 0).0 passes)

fails_full : (line : List ℕ) → (length line == 0) ≡ false → 0 < length line
fails_full [] fails = cc
fails_full (byte ∷ rest) fails = omega arith

-- a list is cut before and after a place
pub cut_at : {X : Type 0} (xs : List X) (i : ℕ) (d : X) → i < length xs
    → xs ≡ take i xs ++ get_or xs i d ∷ drop (i + 1) xs
cut_at xs i d below = sym (take-append-drop i xs)
    ∙ ap (λ rest. take i xs ++ rest) (rw add-one (drop-cons xs i d below))

-- the lines are cut at the place of the first empty one
pub cut_shown : (lines : List (Bor (List ℕ))) (end : ℕ)
    → position (λ line. length line.now == 0) lines ≡ Some end
    → IsCutAtEmpty (texts_of lines) (texts_of (take end lines), texts_of (drop (end + 1) lines))
cut_shown lines end is =
    let texts = texts_of lines in
    let first = position-Some (λ (line : List ℕ). length line == 0) texts end []
    (sym (first_shown (λ (line : List ℕ). length line == 0) (λ (line : Bor (List ℕ)). line.now) lines) ∙ is) in
    let empty : get_or texts end [] ≡ [] = empty_is _ first.1 in
    let front : take end texts ≡ texts_of (take end lines) = take-map _ end lines in
    let back : drop (end + 1) texts ≡ texts_of (drop (end + 1) lines) = drop-map _ (end + 1) lines in
    record {
      written = cut_at texts end [] first.0
          ∙ ap (λ (line : List ℕ). take end texts ++ line ∷ drop (end + 1) texts) empty
          ∙ ap (λ (xs : List (List ℕ)). xs ++ [] ∷ drop (end + 1) texts) front
          ∙ ap (λ (xs : List (List ℕ)). texts_of (take end lines) ++ [] ∷ xs) back;
      full = rw (← front) (λ k d below. full_before texts end k d (first.2 k) below);
    }
  where
    full_before : (texts : List (List ℕ)) (end k : ℕ) (d : List ℕ)
        → (k < end → (length (get_or texts k []) == 0) ≡ false) → k < length (take end texts)
        → 0 < length (get_or (take end texts) k d)
    full_before texts end k d fails below =
        let less : k < end = omega (arith, length-take end texts) in
        let within : k < length texts = omega (arith, length-take end texts) in
        let same : get_or (take end texts) k d ≡ get_or texts k [] = get_or-take end texts k d less
        ∙ get_or_default texts k d [] within in
        rw same (fails_full (get_or texts k []) (fails less))

-- where no line is empty, there is no cut
pub no_cut : (lines : List (Bor (List ℕ))) → position (λ line. length line.now == 0) lines ≡ None
    → (parts : List (List ℕ) × List (List ℕ)) → ¬ IsCutAtEmpty (texts_of lines) parts
no_cut lines none parts is =
    no_first (λ (line : List ℕ). length line == 0) (texts_of lines) parts.0 parts.1 []
    (sym (first_shown (λ (line : List ℕ). length line == 0) (λ (line : Bor (List ℕ)). line.now) lines) ∙ none)
    is.written (λ k d below. full_fails _ (is.full k d below)) refl

-- lines are cut in one way
pub same_parts : (lines : List (List ℕ)) (one other : List (List ℕ) × List (List ℕ))
    → IsCutAtEmpty lines one → IsCutAtEmpty lines other → (one.0 ≡ other.0) × (one.1 ≡ other.1)
same_parts lines one other is also =
    same_cut (λ (line : List ℕ). length line == 0) one.0 one.1 other.0 other.1 [] []
    (λ k d below. full_fails _ (is.full k d below)) refl
    (λ k d below. full_fails _ (also.full k d below)) refl
    (sym is.written ∙ also.written)
