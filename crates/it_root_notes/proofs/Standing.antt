-- The first certificate that misses something with the next one.
use Rattle.std.proofs.Common.{◌≡◌, ◌∙◌, ◌+◌, ◌<◌, ◌≤◌, ℕ, zero, suc, List, [], ◌∷◌, ap, arith}
use Rattle.std.proofs.Common.{drop, get_or, length, map, subst, sym}
use Rattle.std.proofs.lemmas.List.{drop_more}
use Rattle.it_certificate.specs.Certificate.{Facts, facts_of}
use Rattle.it_certificate.specs.declared.certificate.Certificate.{Certificate}
use Rattle.it_root_notes.specs.Missing.{MissesNext}

-- the certificates from a place on
abbrev pub left : ℕ → List Certificate → List Facts
left i xs = map facts_of (drop i xs)

one_left : (i : ℕ) (xs : List Certificate) (x : Certificate) → i < length xs → x ≡ get_or xs i x
    → left i xs ≡ facts_of x ∷ left (i + 1) xs
one_left i xs x below is =
    ap (λ (l : List Certificate). map facts_of l) (drop_more xs i x below)
    ∙ ap (λ (y : Certificate). facts_of y ∷ left (i + 1) xs) (sym is)

-- each meets it with the next one
abbrev pub MeetNext : (Facts → Facts → Type 0) → List Facts → Type 0
MeetNext Meets [] = Unit {0}
MeetNext Meets (f ∷ []) = Unit {0}
MeetNext Meets (f ∷ next ∷ fs) = Meets f next × MeetNext Meets (next ∷ fs)

-- where each meets it, none misses it
pub none_misses : (Meets : Facts → Facts → Type 0) (fs : List Facts) (n : ℕ) → MeetNext Meets fs
    → ¬ MissesNext Meets fs n
none_misses Meets [] n meet = λ miss. miss
none_misses Meets (f ∷ []) n meet = λ miss. miss
none_misses Meets (f ∷ g ∷ fs) zero meet = λ miss. miss meet.0
none_misses Meets (f ∷ g ∷ fs) (suc n) meet = λ miss.
    none_misses Meets (g ∷ fs) n meet.1 miss.1

last_meets : (Meets : Facts → Facts → Type 0) (i : ℕ) (xs : List Certificate) → length xs ≤ suc i
    → MeetNext Meets (left i xs)
last_meets Meets zero [] ends = tt
last_meets Meets zero (x ∷ []) ends = tt
last_meets Meets zero (x ∷ y ∷ xs) ends = absurd (omega arith)
last_meets Meets (suc i) [] ends = tt
last_meets Meets (suc i) (x ∷ xs) ends = last_meets Meets i xs (omega arith)

-- the certificates from a place on tell of all, since those before it meet it
pub record Tell (Meets : Facts → Facts → Type 0) (i : ℕ) (xs : List Certificate) : Type 0 where
  pub meet : MeetNext Meets (left i xs) → MeetNext Meets (map facts_of xs)
  pub miss : (n : ℕ) → MissesNext Meets (left i xs) n → MissesNext Meets (map facts_of xs) (i + n)

-- all of them do
pub all_tell : (Meets : Facts → Facts → Type 0) (xs : List Certificate) → Tell Meets 0 xs
all_tell Meets xs = record {
  meet = λ all. all;
  miss = λ n misses.
      let same : n ≡ 0 + n = omega arith in subst (MissesNext Meets (map facts_of xs)) same misses;
}

-- no two are left
pub all_meet : (Meets : Facts → Facts → Type 0) (i : ℕ) (xs : List Certificate)
    → length xs ≤ i + 1 → Tell Meets i xs → MeetNext Meets (map facts_of xs)
all_meet Meets i xs ends tell = tell.meet (last_meets Meets i xs (omega arith))

module _ (Meets : Facts → Facts → Type 0) (i place : ℕ) (xs : List Certificate)
    (x y : Certificate) (here : place ≡ i + 1) (below : place < length xs)
    (one : x ≡ get_or xs i x) (two : y ≡ get_or xs place y) (tell : Tell Meets i xs) where
  next_left : left (i + 1) xs ≡ facts_of y ∷ left (i + 1 + 1) xs
  next_left =
      one_left (i + 1) xs y (omega arith) (two ∙ ap (λ (n : ℕ). get_or xs n y) here)

  both_left : left i xs ≡ facts_of x ∷ facts_of y ∷ left (i + 1 + 1) xs
  both_left = one_left i xs x (omega arith) one
      ∙ ap (λ (fs : List Facts). facts_of x ∷ fs) next_left

  -- the first of two misses it
  pub one_misses : ¬ Meets (facts_of x) (facts_of y) → MissesNext Meets (map facts_of xs) i
  one_misses none =
      let same : i + 0 ≡ i = omega arith in
      subst (MissesNext Meets (map facts_of xs)) same
      (tell.miss 0 (subst (λ (fs : List Facts). MissesNext Meets fs 0) (sym both_left) none))

  -- it meets it
  pub one_meets : (after : ℕ) → after ≡ i + 1 → Meets (facts_of x) (facts_of y)
      → Tell Meets after xs
  one_meets after there meets = subst (λ (n : ℕ). Tell Meets n xs) (sym there) (record {
    meet = λ all.
        tell.meet (subst (MeetNext Meets) (sym both_left)
        (meets, subst (MeetNext Meets) next_left all));
    miss = λ n misses.
        let same : i + suc n ≡ i + 1 + n = omega arith in
        subst (MissesNext Meets (map facts_of xs)) same
        (tell.miss (suc n) (subst (λ (fs : List Facts). MissesNext Meets fs (suc n)) (sym both_left)
        (meets, subst (λ (fs : List Facts). MissesNext Meets fs n) next_left misses)));
  })
