-- The names that follow a front of paths: one for a path at most, and those of one path more.
use Rattle.std.proofs.Common.{◌≡◌, ◌∙◌, ◌+◌, ◌-◌, ◌<◌, ◌≤◌, ◌++◌, ◌∷◌, ◌↔◌, ◌⊎◌, ◌≢◌, [], ℕ, List, Bor}
use Rattle.std.proofs.Common.{Contains, ap, append-nil, append_assoc, arith, drop, get_or, inl, inr, length, refl, subst}
use Rattle.std.proofs.Common.{sym, take}
use Rattle.std.specs.List.{slice_range}
use Rattle.std.specs.Str.{byte}
use Rattle.std.specs.Str.Pattern.{FindsTextPrefix, StripsPrefix}
use Rattle.std.proofs.lemmas.Grind.{get_or_default_zero}
use Rattle.std.proofs.lemmas.List.{append_cancel_left, get_or-drop, get_or-take, length-drop}
use Rattle.std.proofs.lemmas.List.{length-take-le, take-append-drop}
use Rattle.std.proofs.lemmas.List.Elements.{Contains-append_left, Contains-append_right}
use Rattle.std.proofs.lemmas.List.Elements.{Contains-push, Contains-push_cases}
use Rattle.std.proofs.lemmas.List.Folds.{drop_split}
use Rattle.it_base.proofs.Members.{head_same, in_head, in_tail, tail_same}
use Rattle.it_memory.specs.inside.Names.{HasNameAfter, IsNameAfter}

abbrev slash : ℕ
slash = byte "/"

abbrev Ends : List ℕ → Type 0
Ends rest = (rest ≡ []) ⊎ ((inside : List ℕ) × (rest ≡ slash ∷ inside))

-- what begins with a byte that is no slash does not end there
goes_on : (y : ℕ) (b r s : List ℕ) → r ≡ y ∷ (b ++ s) → Ends r → ¬ Contains (y ∷ b) slash → ⊥
goes_on y b r s is (inl none) lacks = cc (is, none)
goes_on y b r s is (inr more) lacks =
    let same : y ≡ slash = head_same y slash (b ++ s) more.0 (sym is ∙ more.1) in
    lacks (subst (Contains (y ∷ b)) same (in_head y b))

-- of what ends at the first slash or at the end, the part before that is one
same_part : (a b r s : List ℕ) → a ++ r ≡ b ++ s → Ends r → Ends s → ¬ Contains a slash
    → ¬ Contains b slash → a ≡ b
same_part [] [] r s e one other lacks none = refl
same_part [] (y ∷ b) r s e one other lacks none = absurd (goes_on y b r s e one none)
same_part (x ∷ a) [] r s e one other lacks none = absurd (goes_on x a s r (sym e) other lacks)
same_part (x ∷ a) (y ∷ b) r s e one other lacks none =
    let head : x ≡ y = head_same x y (a ++ r) (b ++ s) e in
    let tail : a ≡ b =
    same_part a b r s (tail_same x y (a ++ r) (b ++ s) e) one other
    (λ c. lacks (in_tail x a slash c)) (λ c. none (in_tail y b slash c)) in
    cc (head, tail)

module _ (front : List ℕ) where
  -- one name follows the front in a path at most
  pub one_name : (path name other : List ℕ) → IsNameAfter front path name
      → IsNameAfter front path other → name ≡ other
  one_name path name other first second =
      same_part name other first.rest second.rest
      (append_cancel_left front (name ++ first.rest) (other ++ second.rest)
      (sym (append_assoc front name first.rest) ∙ sym first.cut ∙ second.cut
      ∙ append_assoc front other second.rest)) first.ends second.ends first.no_slash
      second.no_slash

  module _ (paths : List (Bor (List ℕ))) (path : Bor (List ℕ)) (names : List (List ℕ))
      (before : (name : List ℕ) → Contains names name ↔ HasNameAfter front paths name) where
    abbrev more : List (Bor (List ℕ))
    more = paths ++ path ∷ []

    earlier : (name : List ℕ) → Contains names name → HasNameAfter front more name
    earlier name c =
        let found = (before name).0 c in
        (found.0, Contains-append_left paths (path ∷ []) found.0 found.1, found.2)

    -- the names of one path more, in which none follows the front
    pub none_more : ((name : List ℕ) → ¬ IsNameAfter front path.now name) → (name : List ℕ)
        → Contains names name ↔ HasNameAfter front more name
    none_more none name = (
      earlier name,
      λ found. elim (Contains-push_cases paths path found.0 found.1) [
        | inl here ↦ (before name).1 (found.0, here, found.2)
        | inr same ↦ absurd (none name
            (subst (λ (p : Bor (List ℕ)). IsNameAfter front p.now name) (sym same) found.2))
      ],
    )

    -- and of one more in which this name does
    pub one_more : (part : List ℕ) → IsNameAfter front path.now part → (name : List ℕ)
        → Contains (names ++ part ∷ []) name ↔ HasNameAfter front more name
    one_more part is name = (
      λ c. elim (Contains-push_cases names part name c) [
        | inl here ↦ earlier name here
        | inr same ↦
            (path, Contains-push paths path, subst (IsNameAfter front path.now) same is)
      ],
      λ found. elim (Contains-push_cases paths path found.0 found.1) [
        | inl here ↦
            Contains-append_left names (part ∷ []) name ((before name).1 (found.0, here, found.2))
        | inr same ↦
            let one : part ≡ name =
            one_name path.now part name is
            (subst (λ (p : Bor (List ℕ)). IsNameAfter front p.now name) (sym same) found.2) in
            subst (Contains (names ++ part ∷ [])) one (Contains-push names part)
      ],
    )

-- what stands in a range of a list
module _ {X : Type 0} (xs : List X) (start end : ℕ) (rises : start ≤ end) where
  pub from_range : (x : X) → Contains (slice_range xs start end) x → Contains xs x
  from_range x c =
      let rest : Contains (drop start xs) x =
      subst (λ l. Contains l x) (sym (drop_split xs start end rises))
      (Contains-append_left (slice_range xs start end) (drop end xs) x c) in
      subst (λ l. Contains l x) (take-append-drop start xs)
      (Contains-append_right (take start xs) (drop start xs) x rest)

  pub in_range : end ≤ length xs → (place : ℕ) (x : X) → start ≤ place → place < end
      → get_or xs place x ≡ x → Contains (slice_range xs start end) x
  in_range within place x first last here =
      let at = place - start in
      let left = length-drop start xs in
      let many : at < end - start = omega (arith, first, last) in
      let fits : end - start ≤ length (drop start xs) = omega (arith, left, within) in
      let taken = length-take-le (end - start) (drop start xs) fits in
      let same : start + at ≡ place = omega (arith, first) in (
        at,
        omega (arith, taken, many),
        get_or-take (end - start) (drop start xs) at x many ∙ get_or-drop start xs at x
            ∙ ap (λ i. get_or xs i x) same ∙ here,
      )

-- what the calls that cut a path give
pub after_front : (front path inside : List ℕ) → StripsPrefix (FindsTextPrefix front) path inside
    → path ≡ front ++ inside
after_front front path inside cut = cut.1.1 ∙ ap (λ rest. front ++ rest) (sym cut.2)

pub lacks_slash : (name : List ℕ) → ((i : ℕ) → i < length name → get_or name i 0 ≢ slash)
    → ¬ Contains name slash
lacks_slash name none c = none c.0 c.1 (sym (get_or_default_zero name c.0 slash c.1) ∙ c.2)

pub up_to_slash : (front path inside name more : List ℕ) → path ≡ front ++ inside
    → inside ≡ name ++ slash ∷ more → ((i : ℕ) → i < length name → get_or name i 0 ≢ slash)
    → IsNameAfter front path name
up_to_slash front path inside name more is cut none = record {
  rest = slash ∷ more;
  cut = is ∙ ap (λ r. front ++ r) cut ∙ sym (append_assoc front name (slash ∷ more));
  ends = inr (more, refl);
  no_slash = lacks_slash name none;
}

pub whole_rest : (front path inside : List ℕ) → path ≡ front ++ inside
    → ((i : ℕ) → i < length inside → get_or inside i 0 ≢ slash) → IsNameAfter front path inside
whole_rest front path inside is none = record {
  rest = [];
  cut = is ∙ sym (append-nil (front ++ inside));
  ends = inl refl;
  no_slash = lacks_slash inside none;
}
