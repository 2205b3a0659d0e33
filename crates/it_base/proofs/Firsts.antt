-- What stands first among places.
use Rattle.std.proofs.Common.{◌≡◌, ◌⊎◌, List, [], ◌∷◌, ◌++◌, map, flat_map, All, Contains, inl, inr}
use Rattle.std.proofs.Common.{⊎_elim}
use Rattle.std.proofs.lemmas.List.Elements.{All-nil, All-cons, All-head, All-tail}
use Rattle.it_base.specs.Places.{IsFirst, NoneAt}
use Rattle.it_base.proofs.Members.{in_head, in_tail}

module _ {P R : Type 0} (At : P → R → Type 0) where
  pub none_first : (ps : List P) (r : R) → NoneAt At ps → ¬ IsFirst At ps r
  none_first [] r none h = h
  none_first (p ∷ ps) r none h = ⊎_elim (none.0 r) (λ x. none_first ps r none.1 x.1) h

  pub none_append : (ps qs : List P) → NoneAt At ps → NoneAt At qs → NoneAt At (ps ++ qs)
  none_append [] qs h k = k
  none_append (p ∷ ps) qs h k = (h.0, none_append ps qs h.1 k)

  pub none_map : {X : Type 0} (f : X → P) (xs : List X) → ((x : X) (r : R) → ¬ At (f x) r)
      → NoneAt At (map f xs)
  none_map f [] h = tt
  none_map f (x ∷ xs) h = (h x, none_map f xs h)

  -- what stands first among places does so where more places follow, and behind places where
  -- nothing stands
  pub first_before : (ps qs : List P) (r : R) → IsFirst At ps r → IsFirst At (ps ++ qs) r
  first_before [] qs r h = absurd h
  first_before (p ∷ ps) qs r h = ⊎_elim inl (λ x. inr (x.0, first_before ps qs r x.1)) h

  pub first_behind : (ps qs : List P) (r : R) → NoneAt At ps → IsFirst At qs r
      → IsFirst At (ps ++ qs) r
  first_behind [] qs r none h = h
  first_behind (p ∷ ps) qs r none h = inr (none.0, first_behind ps qs r none.1 h)

  -- at most one thing stands first
  abbrev pub OneFirst : List P → Type 0
  OneFirst ps = (a b : R) → IsFirst At ps a → IsFirst At ps b → a ≡ b

  -- at most one thing stands at a place
  abbrev pub OneAt : P → Type 0
  OneAt p = (a b : R) → At p a → At p b → a ≡ b

  pub one_none : OneFirst []
  one_none a b h k = absurd h

  pub one_more : (p : P) (ps : List P) → OneAt p → (((r : R) → ¬ At p r) → OneFirst ps)
      → OneFirst (p ∷ ps)
  one_more p ps here rest a b h k =
      ⊎_elim (λ x. ⊎_elim (λ y. here a b x y) (λ y. absurd (y.0 a x)) k)
      (λ x. ⊎_elim (λ y. absurd (x.0 b y)) (λ y. rest x.0 a b x.1 y.1) k) h

  pub one_append : (ps qs : List P) → OneFirst ps → (NoneAt At ps → OneFirst qs)
      → OneFirst (ps ++ qs)
  one_append [] qs h k = k tt
  one_append (p ∷ ps) qs h k =
      one_more p (ps ++ qs) (λ a b x y. h a b (inl x) (inl y))
      (λ none. one_append ps qs (λ a b x y. h a b (inr (none, x)) (inr (none, y)))
      (λ rest. k (none, rest)))

  pub one_map : {X : Type 0} (f : X → P) (xs : List X) → ((x : X) → OneAt (f x))
      → OneFirst (map f xs)
  one_map f [] h = one_none
  one_map f (x ∷ xs) h = one_more (f x) (map f xs) (h x) (λ _. one_map f xs h)

  pub one_flat_map : {X : Type 0} (f : X → List P) (xs : List X) → ((x : X) → OneFirst (f x))
      → OneFirst (flat_map f xs)
  one_flat_map f [] h = one_none
  one_flat_map f (x ∷ xs) h = one_append (f x) (flat_map f xs) (h x) (λ _. one_flat_map f xs h)

module _ {P R : Type 0} (At : P → R → Type 0) (Good : P → Type 0) (apart : (p : P) → Good p
    → (r : R) → ¬ At p r) where
  -- something stands first, or all are good
  pub first_or_all : ((p : P) → ((r : R) × At p r) ⊎ Good p) → (ps : List P)
      → ((r : R) × IsFirst At ps r) ⊎ All Good ps
  first_or_all each [] = inr (All-nil Good)
  first_or_all each (p ∷ ps) = elim (each p) [
    | inl found ↦ inl (found.0, inl found.1)
    | inr good ↦ elim (first_or_all each ps) [
      | inl found ↦ inl (found.0, inr (apart p good, found.1))
      | inr goods ↦ inr (All-cons Good p ps good goods)
    ]
  ]

  pub none_at_good : (ps : List P) → All Good ps → NoneAt At ps
  none_at_good [] goods = tt
  none_at_good (p ∷ ps) goods =
      (apart p (All-head Good p ps goods), none_at_good ps (All-tail Good p ps goods))

-- what stands first stands at one of the places
pub first_stands : {P R : Type 0} (At : P → R → Type 0) (ps : List P) (r : R) → IsFirst At ps r
    → (p : P) × Contains ps p × At p r
first_stands At [] r h = absurd h
first_stands At (p ∷ ps) r h =
    ⊎_elim (λ x. (p, in_head p ps, x)) (λ x. let found = first_stands At ps r x.1 in
    (found.0, in_tail p ps found.0 found.1, found.2)) h

-- what stands first where the same stands at each of the places
pub first_alike : {P R : Type 0} (At Bt : P → R → Type 0) (ps : List P)
    → ((p : P) → Contains ps p → (r : R) → At p r → Bt p r)
    → ((p : P) → Contains ps p → (r : R) → Bt p r → At p r) → (r : R) → IsFirst At ps r
    → IsFirst Bt ps r
first_alike At Bt [] there back r h = h
first_alike At Bt (p ∷ ps) there back r h =
    ⊎_elim (λ x. inl (there p (in_head p ps) r x))
    (λ x. inr (
      λ q y. x.0 q (back p (in_head p ps) q y),
      first_alike At Bt ps (λ s c. there s (in_tail p ps s c)) (λ s c. back s (in_tail p ps s c))
          r x.1,
    )) h
