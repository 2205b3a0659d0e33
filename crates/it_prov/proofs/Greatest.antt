-- The greatest numbers of which something holds.
use Rattle.std.proofs.Common.{◌≡◌, ◌⊎◌, ◌↔◌, ◌+◌, ◌++◌, ◌<◌, ◌≤◌, ℕ, List, [], ◌∷◌, length, get_or}
use Rattle.std.proofs.Common.{take, take_all, Option, Some, None, IfSome, inl, inr, ⊎_elim}
use Rattle.std.proofs.Common.{Contains, refl, sym, ap, subst, arith, ◌∙◌}
use Rattle.std.proofs.lemmas.Bool.Decides.{leb_tells}
use Rattle.std.proofs.lemmas.List.{take_more}
use Rattle.std.proofs.lemmas.List.Elements.{Contains-append_left, Contains-push}
use Rattle.std.proofs.lemmas.List.Elements.{Contains-push_cases}
use Rattle.std.proofs.lemmas.Option.{same_Some}
use Rattle.it_base.proofs.Members.{in_cases, in_head, in_none, in_tail}
use Rattle.it_prov.specs.Best.{IsGreatest}
use Rattle.it_prov.specs.inside.Judged.{IsEnoughOrGreatest, IsShort, OfSome}

pub greatest_one : (P : ℕ → Type 0) (a b : Option ℕ) → IsGreatest P a → IsGreatest P b → a ≡ b
greatest_one P None None h k = refl
greatest_one P None (Some n) h k = absurd (h n k.0)
greatest_one P (Some m) None h k = absurd (k m h.0)
greatest_one P (Some m) (Some n) h k = let same : m ≡ n = omega (arith, k.1 m h.0, h.1 n k.0) in
    ap Some same

pub greatest_alike : (P Q : ℕ → Type 0) → ((n : ℕ) → P n → Q n) → ((n : ℕ) → Q n → P n)
    → (best : Option ℕ) → IsGreatest P best → IsGreatest Q best
greatest_alike P Q to from None h = λ n q. h n (from n q)
greatest_alike P Q to from (Some m) h = (to m h.0, λ n q. h.1 n (from n q))

-- ---- the greater of two
-- a number is one of two, where they are there
abbrev OneOf : Option ℕ → Option ℕ → ℕ → Type 0
OneOf a b n = (a ≡ Some n) ⊎ (b ≡ Some n)

greater_none : (a : Option ℕ) → IsGreatest (OneOf a None) a
greater_none None = λ n. ⊎_elim (λ e. cc) (λ e. cc)
greater_none (Some m) = (
  inl refl,
  λ n. ⊎_elim (λ e. let same = same_Some m n e in
      omega (arith, same)) (λ e. cc),
)

some_greater : (a b : Option ℕ) → (c : Option ℕ) × IsGreatest (OneOf a b) c
some_greater None None = (None, λ n. ⊎_elim (λ e. cc) (λ e. cc))
some_greater None (Some n) = (
  Some n,
  (
    inr refl,
    λ m. ⊎_elim (λ e. cc) (λ e. let same = same_Some n m e in
        omega (arith, same)),
  ),
)
some_greater (Some m) None = (Some m, greater_none (Some m))
some_greater (Some m) (Some n) = elim (leb_tells m n) [
  | inl less ↦ (
    Some n,
    (
      inr refl,
      λ k. ⊎_elim (λ e. let same = same_Some m k e in
          omega (arith, same, less.1)) (λ e. let same = same_Some n k e in omega (arith, same)),
    ),
  )
  | inr more ↦ (
    Some m,
    (
      inl refl,
      λ k. ⊎_elim (λ e. let same = same_Some m k e in
          omega (arith, same)) (λ e. let same = same_Some n k e in omega (arith, same, more.1)),
    ),
  )
]

module _ (P : ℕ → Type 0) where
  holds_of : (a : Option ℕ) → IsGreatest P a → (n : ℕ) → a ≡ Some n → P n
  holds_of None h n e = cc
  holds_of (Some m) h n e = subst P (same_Some m n e) h.0

  at_most_of : (a : Option ℕ) → IsGreatest P a → (n : ℕ) → P n → (m : ℕ) × (a ≡ Some m) × (n ≤ m)
  at_most_of None h n p = absurd (h n p)
  at_most_of (Some m) h n p = (m, refl, h.1 n p)

greatest_both : (P Q : ℕ → Type 0) (a b c : Option ℕ) → IsGreatest P a → IsGreatest Q b
    → IsGreatest (OneOf a b) c → IsGreatest (λ n. P n ⊎ Q n) c
greatest_both P Q a b None h k none = λ n.
    ⊎_elim (λ p. let m = at_most_of P a h n p in none m.0 (inl m.1))
    (λ q. let m = at_most_of Q b k n q in none m.0 (inr m.1))
greatest_both P Q a b (Some c) h k both = (
  ⊎_elim (λ e. inl (holds_of P a h c e)) (λ e. inr (holds_of Q b k c e)) both.0,
  λ n.
      ⊎_elim (λ p. let m = at_most_of P a h n p in omega (arith, m.2, both.1 m.0 (inl m.1)))
      (λ q. let m = at_most_of Q b k n q in omega (arith, m.2, both.1 m.0 (inr m.1))),
)

-- ---- of the elements of a list
module _ {X : Type 0} (R : X → ℕ → Type 0) where
  greatest_empty : IsGreatest (OfSome R []) None
  greatest_empty = λ n h. in_none h.0 h.1

  of_push : (xs : List X) (x : X) (n : ℕ) → OfSome R xs n ⊎ R x n → OfSome R (xs ++ x ∷ []) n
  of_push xs x n = ⊎_elim (λ h. (h.0, Contains-append_left xs (x ∷ []) h.0 h.1, h.2))
      (λ r. (x, Contains-push xs x, r))

  push_of : (xs : List X) (x : X) (n : ℕ) → OfSome R (xs ++ x ∷ []) n → OfSome R xs n ⊎ R x n
  push_of xs x n h = elim (Contains-push_cases xs x h.0 h.1) [
    | inl earlier ↦ inl (h.0, earlier, h.2)
    | inr same ↦ inr (subst (λ y. R y n) (sym same) h.2)
  ]

  -- with one element more
  greatest_more : (xs : List X) (i : ℕ) (x : X) → i < length xs → x ≡ get_or xs i x
      → (a b c : Option ℕ) → IsGreatest (OfSome R (take i xs)) a → IsGreatest (R x) b
      → IsGreatest (OneOf a b) c
      → IsGreatest (OfSome R (take (i + 1) xs)) c
  greatest_more xs i x below here a b c h k both =
      let more : take (i + 1) xs ≡ take i xs ++ x ∷ [] = take_more xs i x below
      ∙ ap (λ z. take i xs ++ z ∷ []) (sym here) in
      subst (λ zs. IsGreatest (OfSome R zs) c) (sym more)
      (greatest_alike (λ n. OfSome R (take i xs) n ⊎ R x n) (OfSome R (take i xs ++ x ∷ []))
      (of_push (take i xs) x) (push_of (take i xs) x) c
      (greatest_both (OfSome R (take i xs)) (R x) a b c h k both))

  cons_of : (x : X) (xs : List X) (n : ℕ) → OfSome R (x ∷ xs) n → R x n ⊎ OfSome R xs n
  cons_of x xs n h = elim (in_cases x xs h.0 h.1) [
    | inl same ↦ inl (subst (λ y. R y n) (sym same) h.2)
    | inr later ↦ inr (h.0, later, h.2)
  ]

  -- where each element has one, there is one of all
  pub some_greatest : ((x : X) → (best : Option ℕ) × IsGreatest (R x) best) → (xs : List X)
      → (best : Option ℕ) × IsGreatest (OfSome R xs) best
  some_greatest each [] = (None, greatest_empty)
  some_greatest each (x ∷ xs) =
      let first = each x in
      let rest = some_greatest each xs in
      let both = some_greater first.0 rest.0 in (
        both.0,
        greatest_alike (λ n. R x n ⊎ OfSome R xs n) (OfSome R (x ∷ xs))
            (λ n. ⊎_elim (λ r. (x, in_head x xs, r)) (λ h. (h.0, in_tail x xs h.0 h.1, h.2)))
            (cons_of x xs) both.0
            (greatest_both (R x) (OfSome R xs) first.0 rest.0 both.0 first.1 rest.1 both.1),
      )

-- ---- a number that is wanted
module _ (wanted : ℕ) where
  short_at : (a : Option ℕ) → IsShort wanted a → (n : ℕ) → a ≡ Some n → n < wanted
  short_at None h n e = cc
  short_at (Some m) h n e = subst (λ k. k < wanted) (same_Some m n e) h

  short_both : (a b c : Option ℕ) → IsShort wanted a → IsShort wanted b → IsGreatest (OneOf a b) c
      → IsShort wanted c
  short_both a b None h k both = tt
  short_both a b (Some c) h k both = ⊎_elim (short_at a h c) (short_at b k c) both.0

  -- where the greatest is less than what is wanted, none is enough
  not_enough : (P : ℕ → Type 0) (best : Option ℕ) → IsGreatest P best → IsShort wanted best
      → (n : ℕ) → P n → ¬ (wanted ≤ n)
  not_enough P None h short n p = λ enough. h n p
  not_enough P (Some m) h short n p = λ enough. absurd (omega (arith, short, enough, h.1 n p))

  pub greatest_of_short : (P : ℕ → Type 0) (best : Option ℕ) → IsEnoughOrGreatest wanted P best
      → IsShort wanted best → IsGreatest P best
  greatest_of_short P None h short = h
  greatest_of_short P (Some m) h short = (h.0, h.1 short)

  -- where it is less, nothing is said of one that is enough
  pub short_or : (Q : Type 0) (best : Option ℕ) → IsShort wanted best
      → IfSome best (λ n. wanted ≤ n → Q)
  short_or Q None short = tt
  short_or Q (Some m) short = λ enough. absurd (omega (arith, short, enough))

  pub enough_or_greatest : (P : ℕ → Type 0) (best : Option ℕ) → IsGreatest P best
      → IsEnoughOrGreatest wanted P best
  enough_or_greatest P None h = h
  enough_or_greatest P (Some m) h = (h.0, λ short. h.1)

  pub enough_alike : (P Q : ℕ → Type 0) → ((n : ℕ) → P n ↔ Q n) → (best : Option ℕ)
      → IsEnoughOrGreatest wanted P best → IsEnoughOrGreatest wanted Q best
  enough_alike P Q alike None h = λ n q. h n ((alike n).1 q)
  enough_alike P Q alike (Some m) h = ((alike m).0 h.0, λ short n q. h.1 short n ((alike n).1 q))

  -- ---- one element after another
  -- the greatest so far, which is less than what is wanted
  pub record SoFar {X : Type 0} (R : X → ℕ → Type 0) (done : List X)
      (best : Option ℕ) : Type 0 where
    pub greatest : IsGreatest (OfSome R done) best
    pub short : IsShort wanted best

  -- what one element more makes of it
  pub record Step (P : ℕ → Type 0) (before now : Option ℕ) : Type 0 where
    pub more : Option ℕ
    pub greatest : IsGreatest P more
    pub short : IsShort wanted more
    pub both : IsGreatest (OneOf before more) now

  pub step_past : (P : ℕ → Type 0) (before now : Option ℕ) → ((n : ℕ) → ¬ P n) → now ≡ before
      → Step P before now
  step_past P before now none same = record {
    more = None;
    greatest = none;
    short = tt;
    both = subst (IsGreatest (OneOf before None))
        (sym same) (greater_none before);
  }

  module _ {X : Type 0} (R : X → ℕ → Type 0) where
    pub so_far_none : SoFar R [] None
    so_far_none = record { greatest = greatest_empty R; short = tt }

    pub so_far_more : (xs : List X) (i : ℕ) (x : X) → i < length xs → x ≡ get_or xs i x
        → (before now : Option ℕ) → SoFar R (take i xs) before → Step (R x) before now
        → SoFar R (take (i + 1) xs) now
    so_far_more xs i x below here before now h step = record {
      greatest = greatest_more R xs i x below here before step.more now h.greatest step.greatest
          step.both;
      short = short_both before step.more now h.short step.short step.both;
    }

    pub so_far_all : (xs : List X) (i : ℕ) (best : Option ℕ) → length xs ≤ i
        → SoFar R (take i xs) best → SoFar R xs best
    so_far_all xs i best past = subst (λ zs. SoFar R zs best) (take_all i xs past)

    -- none so far is enough
    pub none_enough : (done : List X) (best : Option ℕ) → SoFar R done best → (x : X)
        → Contains done x → (n : ℕ) → R x n → ¬ (wanted ≤ n)
    none_enough done best h x c n r = not_enough (OfSome R done) best h.greatest h.short n (x, c, r)
