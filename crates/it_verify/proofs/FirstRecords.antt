-- The first record of each name, as the list of records grows at its end.
use Rattle.std.proofs.Common.{Bor, ◌≡◌, ℕ, ◌+◌, ◌<◌, List, [], ◌∷◌, ◌++◌, Bool, true, false, cond}
use Rattle.std.proofs.Common.{Option, Some, None, option_map, is_some, length, take, get_or, refl}
use Rattle.std.proofs.Common.{sym, ap, ◌∙◌, inl, inr}
use Rattle.std.specs.BTreeMap.{BTreeMap, get_by}
use Rattle.std.specs.Cmp.Lexicographic.{slice_cmp}
use Rattle.std.specs.List.{find}
use Rattle.std.specs.Option.{option_or}
use Rattle.std.specs.Ordering.{nat_cmp}
use Rattle.std.specs.Str.{bytes_eq}
use Rattle.std.proofs.lemmas.Bool.{cases_Bool}
use Rattle.std.proofs.lemmas.List.{take_more}
use Rattle.std.proofs.lemmas.List.Folds.{find-append}
use Rattle.std.proofs.lemmas.Slice.Eq.{bytes_eq-Decides}
use Rattle.it_verify.specs.Inspections.{record_at}
use Rattle.it_verify.specs.inside.Inspections.{AreFirsts}
use Rattle.it_verify.specs.declared.inputs.Inputs.{Inputs}

-- the bytes of the first record of a name
abbrev first_of : List (List ℕ × List ℕ) → List ℕ → Option (List ℕ)
first_of records name = option_map (λ given. given.1)
    (find (λ given. bytes_eq given.0 name) records)

shown_or : {X Y : Type 0} (f : X → Y) (a b : Option X) → option_map f (option_or a b) ≡ option_or
    (option_map f a) (option_map f b)
shown_or f None b = refl
shown_or f (Some x) b = refl

pub shown_if : {X Y : Type 0} (f : X → Y) (b : Bool) (x : X) (o : Option X)
    → option_map f (cond b (Some x) o) ≡ cond b (Some (f x)) (option_map f o)
shown_if f true x o = refl
shown_if f false x o = refl

or_none : {X : Type 0} (o : Option X) → o ≡ option_or o None
or_none None = refl
or_none (Some x) = refl

-- one more record counts where its name had none
pub first_more : (records : List (List ℕ × List ℕ)) (i : ℕ) (r : List ℕ × List ℕ) (old new : List ℕ
    → Option (List ℕ)) → i < length records → r ≡ get_or records i r
    → ((q : List ℕ) → old q ≡ first_of (take i records) q)
    → ((q : List ℕ) → new q ≡ option_or (old q) (cond (bytes_eq r.0 q) (Some r.1) None))
    → (q : List ℕ) → new q ≡ first_of (take (i + 1) records) q
first_more records i r old new below is before step q =
    let cut : take (i + 1) records ≡ take i records ++ r ∷ [] = take_more records i r below
    ∙ ap (λ x. take i records ++ x ∷ []) (sym is) in
    step q ∙ ap (λ o. option_or o (cond (bytes_eq r.0 q) (Some r.1) None)) (before q)
    ∙ ap (option_or (first_of (take i records) q))
    (sym (shown_if (λ given. given.1) (bytes_eq r.0 q) r None))
    ∙ sym (shown_or (λ given. given.1) (find (λ given. bytes_eq given.0 q) (take i records))
    (cond (bytes_eq r.0 q) (Some r) None))
    ∙ ap (option_map (λ given. given.1))
    (sym (find-append (λ given. bytes_eq given.0 q) (take i records) (r ∷ [])))
    ∙ ap (λ rs. first_of rs q) (sym cut)

-- a name that had no record has this one now
pub first_new : (name bytes : List ℕ) (old : List ℕ → Option (List ℕ)) → old name ≡ None
    → (q : List ℕ) → cond (bytes_eq name q) (Some bytes) (old q) ≡ option_or (old q)
    (cond (bytes_eq name q) (Some bytes) None)
first_new name bytes old none q =
    elim (cases_Bool (bytes_eq name q)) [
      | inl e ↦ let there : old q ≡ None = ap old (sym ((bytes_eq-Decides name q).0 e)) ∙ none in
          rw (e, there) refl
      | inr e ↦ rw e (or_none (old q))
    ]

-- a name that had a record keeps it
pub first_kept : (name bytes was : List ℕ) (old : List ℕ → Option (List ℕ)) → old name ≡ Some was
    → (q : List ℕ) → old q ≡ option_or (old q) (cond (bytes_eq name q) (Some bytes) None)
first_kept name bytes was old there q =
    elim (cases_Bool (bytes_eq name q)) [
      | inl e ↦ let is : old q ≡ Some was = ap old (sym ((bytes_eq-Decides name q).0 e)) ∙ there in
          rw (e, is) refl
      | inr e ↦ rw e (or_none (old q))
    ]

-- a value is there
pub some_there : {X : Type 0} (o : Option X) → is_some o ≡ true → (x : X) × (o ≡ Some x)
some_there None e = cc
some_there (Some x) e = (x, refl)

-- what is found under a name is the first record of that name
pub found_first : (inputs : Inputs) (given : List (List ℕ × List ℕ))
    (firsts : BTreeMap (Bor (List ℕ)) (Bor (List ℕ))) (name other : List ℕ)
    (found : Option (Bor (List ℕ)))
    → AreFirsts given firsts → given ≡ inputs.records → other ≡ name
    → found ≡ get_by (λ k. slice_cmp nat_cmp other k.now) firsts
    → option_map (λ (b : Bor (List ℕ)). b.now) found ≡ record_at name inputs
found_first inputs given firsts name other found are all same is =
    ap (option_map (λ (b : Bor (List ℕ)). b.now)) is ∙ are other ∙ ap (λ rs. first_of rs other) all
    ∙ ap (first_of inputs.records) same
