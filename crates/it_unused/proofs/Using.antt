-- The expectations that are the first to speak of some path, one path after another.
use Rattle.std.proofs.Common.{◌≡◌, ◌↔◌, ◌⊎◌, ◌∙◌, ◌+◌, ◌<◌, ℕ, List, [], ◌∷◌, ◌++◌, inl, inr, Bor}
use Rattle.std.proofs.Common.{Bool, true, false, cond, Ordering, Less, Equal, Greater, is_eq, nat_cmp}
use Rattle.std.proofs.Common.{IsTrue, ap, arith, get_or, length, refl, subst, sym, take}
use Rattle.std.specs.BTreeSet.{BTreeSet, IsEmpty, contains}
use Rattle.std.specs.Cmp.{tied_itself}
use Rattle.std.specs.FinMap.{nat_cmp-IsAntisymmetric}
use Rattle.std.proofs.lemmas.Bool.{false≢true}
use Rattle.std.proofs.lemmas.Cmp.{nat_cmp_total}
use Rattle.std.proofs.lemmas.List.{take_more}
use Rattle.std.proofs.lemmas.List.Quantifiers.{Any-push}
use Rattle.it_pattern_index.specs.FirstMatch.{IsFirstMatch, NoneMatches}
use Rattle.it_unused.specs.inside.Used.{IsUsed}
use Rattle.it_unused.proofs.Lending.{any_before, any_cases, any_none}

module _ (patterns : List (List ℕ)) where
  -- a set has just the places whose patterns are the first to match one of some paths
  abbrev pub AreUsed : List (Bor (List ℕ)) → BTreeSet ℕ → Type 0
  AreUsed paths used = (place : ℕ) → IsTrue (contains nat_cmp used place)
      ↔ IsUsed patterns paths place

  pub used_none : (used : BTreeSet ℕ) → IsEmpty used → AreUsed [] used
  used_none used empty place = (
    λ has. let none : contains nat_cmp used place ≡ false = rw empty refl in
        absurd (false≢true (sym none ∙ has)),
    λ any. absurd (any_none (λ (path : Bor (List ℕ)). IsFirstMatch patterns path.now place) any),
  )

  one_first : (path : List ℕ) (m n : ℕ) → IsFirstMatch patterns path m
      → IsFirstMatch patterns path n → m ≡ n
  one_first path m n one other =
      let below = one.none_before n other.here in
      let above = other.none_before m one.here in omega (arith, below, above)

  same_place : (m n : ℕ) → is_eq (nat_cmp m n) ≡ true → m ≡ n
  same_place m n = go (nat_cmp m n) refl
    where
      go : (o : Ordering) → nat_cmp m n ≡ o → is_eq o ≡ true → m ≡ n
      go Equal same h = nat_cmp-IsAntisymmetric m n same
      go Less other h = absurd (false≢true h)
      go Greater other h = absurd (false≢true h)

  module _ (paths : List (Bor (List ℕ))) (i : ℕ) (below : i < length paths)
      (lent : Bor (List ℕ)) (is : lent ≡ get_or paths i lent) (old : BTreeSet ℕ)
      (before : AreUsed (take i paths) old) where
    abbrev IsFirstFor : ℕ → Bor (List ℕ) → Type 0
    IsFirstFor place path = IsFirstMatch patterns path.now place

    more : take (i + 1) paths ≡ take i paths ++ lent ∷ []
    more = take_more paths i lent below ∙ ap (λ l. take i paths ++ l ∷ []) (sym is)

    -- where no pattern matches the next path
    pub used_skip : NoneMatches patterns lent.now → AreUsed (take (i + 1) paths) old
    used_skip none place = rw more (
      λ has. any_before (IsFirstFor place) (take i paths) lent ((before place).0 has),
      λ any. elim (any_cases (IsFirstFor place) (take i paths) lent any) [
        | inl earlier ↦ (before place).1 earlier
        | inr first ↦ absurd (none place first.here)
      ],
    )

    put_has : (m : ℕ) → IsFirstMatch patterns lent.now m → (place : ℕ) (b : Bool)
        → is_eq (nat_cmp m place) ≡ b → IsTrue (cond b true (contains nat_cmp old place))
        → IsUsed patterns (take i paths ++ lent ∷ []) place
    put_has m first place true same has = Any-push (IsFirstFor place) (take i paths) lent
        (subst (λ n. IsFirstMatch patterns lent.now n) (same_place m place same) first)
    put_has m first place false other has =
        any_before (IsFirstFor place) (take i paths) lent ((before place).0 has)

    has_put : (m : ℕ) (place : ℕ) (b : Bool) → is_eq (nat_cmp m place) ≡ b
        → IsUsed patterns (take i paths) place ⊎ (m ≡ place)
        → IsTrue (cond b true (contains nat_cmp old place))
    has_put m place true same h = refl
    has_put m place false other (inl earlier) = (before place).1 earlier
    has_put m place false other (inr same) = absurd (false≢true
        (sym other ∙ ap (λ n. is_eq (nat_cmp m n)) (sym same) ∙ ap is_eq (tied_itself nat_cmp_total m)))

    -- where this pattern is the first that does
    pub used_put : (m : ℕ) → IsFirstMatch patterns lent.now m → (new : BTreeSet ℕ)
        → ((place : ℕ) → contains nat_cmp new place
        ≡ cond (is_eq (nat_cmp m place)) true (contains nat_cmp old place))
        → AreUsed (take (i + 1) paths) new
    used_put m first new puts place = rw (more, puts place) (
      put_has m first place (is_eq (nat_cmp m place)) refl,
      λ any. has_put m place (is_eq (nat_cmp m place)) refl
          (elim (any_cases (IsFirstFor place) (take i paths) lent any) [
            | inl earlier ↦ inl earlier
            | inr other ↦ inr (one_first lent.now m place first other)
          ]),
    )
