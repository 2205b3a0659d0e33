-- How far something is reached, one element at a time.
use Rattle.std.proofs.Common.{◌≡◌, ◌⊎◌, ◌↔◌, List, [], ◌∷◌, ◌++◌, length, Bool, true, false, IsTrue}
use Rattle.std.proofs.Common.{All, Any, Contains, subst, refl, sym, ap, ◌∙◌, inl, inr, ⊎_elim, arith}
use Rattle.std.proofs.lemmas.Bool.{false≢true}
use Rattle.std.proofs.lemmas.List.Elements.{All-cons, All-head, All-nil, All-tail}
use Rattle.it_findings.specs.Reaching.{Reaches}

not_in_none : {X : Type 0} → (before : List X) (here : X) (after : List X)
    → [] ≡ before ++ here ∷ after → ⊥
not_in_none [] here after e = absurd (cc)
not_in_none (x ∷ before) here after e = absurd (cc)

-- nothing is reached in an empty list
not_reached_in_none : {X : Type 0} (P : X → Type 0) (H : X → List X → Type 0)
    → ¬ Reaches P H []
not_reached_in_none P H r = not_in_none r.before r.here r.after r.list_is

where_of : {X : Type 0} (P : X → Type 0) (H : X → List X → Type 0) (x : X) (xs : List X)
    → (before : List X) (here : X) (after : List X) → x ∷ xs ≡ before ++ here ∷ after
    → All P before → H here after → H x xs ⊎ (P x × Reaches P H xs)
where_of P H x xs [] here after e all found =
    let head : x ≡ here = cc in
    let tail : xs ≡ after = cc in
    inl (rw (head, tail) found)
where_of P H x xs (y ∷ before) here after e all found =
    let head : x ≡ y = cc in
    let tail : xs ≡ before ++ here ∷ after = cc in
    inr (
      rw head (All-head P y before all),
      record {
        before = before;
        here = here;
        after = after;
        list_is = tail;
        passes = All-tail P y before all;
        is_found = found;
      },
    )

-- it is reached at the first element, or that is passed and it is reached behind it
reached_where : {X : Type 0} (P : X → Type 0) (H : X → List X → Type 0) (x : X) (xs : List X)
    → Reaches P H (x ∷ xs) → H x xs ⊎ (P x × Reaches P H xs)
reached_where P H x xs r =
    where_of P H x xs r.before r.here r.after r.list_is r.passes r.is_found

-- it is reached at the first element
reached_here : {X : Type 0} (P : X → Type 0) (H : X → List X → Type 0) (x : X) (xs : List X)
    → H x xs → Reaches P H (x ∷ xs)
reached_here P H x xs found = record {
  before = [];
  here = x;
  after = xs;
  list_is = refl;
  passes = All-nil P;
  is_found = found;
}

reached_behind : {X : Type 0} (P : X → Type 0) (H : X → List X → Type 0) (x : X) (xs : List X)
    → P x → Reaches P H xs → Reaches P H (x ∷ xs)
reached_behind P H x xs passed r = record {
  before = x ∷ r.before;
  here = r.here;
  after = r.after;
  list_is = ap (λ ys. x ∷ ys) r.list_is;
  passes = All-cons P x r.before passed r.passes;
  is_found = r.is_found;
}

-- where the answer for the list is that for what is left of it: at an element at which it is reached
pub stops : {X : Type 0} (P : X → Type 0) (H : X → List X → Type 0) (xs rest : List X) (x : X)
    (after : List X) → rest ≡ x ∷ after → H x after → Reaches P H rest ↔ Reaches P H xs
    → IsTrue true ↔ Reaches P H xs
stops P H xs rest x after left found same =
    (λ t. same.0 (rw left (reached_here P H x after found)), λ r. refl)

-- at one that is passed, and at which it is not reached
pub goes_on : {X : Type 0} (P : X → Type 0) (H : X → List X → Type 0) (xs rest : List X) (x : X)
    (after : List X) → rest ≡ x ∷ after → P x → ¬ H x after → Reaches P H rest ↔ Reaches P H xs
    → Reaches P H after ↔ Reaches P H xs
goes_on P H xs rest x after left passed not same = (
  λ r. same.0 (rw left (reached_behind P H x after passed r)),
  λ r. ⊎_elim (λ h. absurd (not h)) (λ b. b.1)
      (reached_where P H x after (rw left at (same.1 r))),
)

-- at one that is not passed, and at which it is not reached
pub stays : {X : Type 0} (P : X → Type 0) (H : X → List X → Type 0) (xs rest : List X) (x : X)
    (after : List X) → rest ≡ x ∷ after → ¬ P x → ¬ H x after → Reaches P H rest ↔ Reaches P H xs
    → IsTrue false ↔ Reaches P H xs
stays P H xs rest x after left not_passed not same = (
  λ t. absurd (false≢true t),
  λ r. absurd (⊎_elim not (λ b. not_passed b.0)
      (reached_where P H x after (rw left at (same.1 r)))),
)

-- where nothing is left
pub ends : {X : Type 0} (P : X → Type 0) (H : X → List X → Type 0) (xs rest : List X)
    → length rest ≡ 0 → Reaches P H rest ↔ Reaches P H xs → IsTrue false ↔ Reaches P H xs
ends P H xs [] none same =
    (λ t. absurd (false≢true t), λ r. absurd (not_reached_in_none P H (same.1 r)))
ends P H xs (x ∷ rest) none same = absurd (omega (arith, none))

-- what a test would have found does not hold where it fails
pub fails : {A : Type 0} (b : Bool) → IsTrue b ↔ A → b ≡ false → ¬ A
fails b same e a = absurd (false≢true (sym e ∙ same.1 a))

-- an element of a list is one of which something holds
pub any_of : {X : Type 0} (P : X → Type 0) (xs : List X) (x : X) → Contains xs x → P x → Any P xs
any_of P xs x stands p = (stands.0, x, stands.1, stands.2, p)

-- what holds of no element holds of none
pub not_any : {X : Type 0} (P : X → Type 0) (xs : List X) → All (λ x. ¬ P x) xs → ¬ Any P xs
not_any P xs none some = subst (λ x. ¬ P x) some.3 (none some.0 some.1 some.2) some.4
