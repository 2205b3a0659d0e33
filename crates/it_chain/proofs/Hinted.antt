-- Which envelopes stand under which hints, as the functions list them.
use Rattle.std.proofs.Common.{◌≡◌, ◌∙◌, ◌<◌, ◌+◌, ◌&&◌, ◌||◌, ℕ, List, [], ◌∷◌, ◌++◌, Bool, true}
use Rattle.std.proofs.Common.{false, Contains, Option, Some, None, if◌then◌else◌, ap, arith, cond}
use Rattle.std.proofs.Common.{filter, get_or, length, not, refl, slice_get, subst, sym, take, take_all, ◌≤◌, Bor, map}
use Rattle.std.proofs.Common.{append-nil, bytes_eq, nat_eq, unwrap_or, ◌-◌, ⊎_elim}
use Rattle.std.specs.List.{list_any}
use Rattle.std.specs.Option.{option_map_or}
use Rattle.std.proofs.Math.Bool.{or-false}
use Rattle.std.proofs.lemmas.List.{map-append, take_more}
use Rattle.std.proofs.lemmas.List.Elements.{Contains-append_cases, filter-append}
use Rattle.std.proofs.lemmas.List.Folds.{list_any-append}
use Rattle.std.proofs.lemmas.Option.{slice_get_within, unwrap_or-slice_get}
use Rattle.it_dsse.specs.declared.envelope.Envelope.{Envelope}
use Rattle.it_dsse.specs.declared.envelope.Signature.{Signature}
use Rattle.it_chain.specs.inside.Hints.{AreHints, admitted_for, hints_at, is_unhinted, is_under}
use Rattle.it_chain.specs.inside.Places.{is_last, items_at, places_under, with_place}
use Rattle.it_chain.specs.declared.hints.Hints.{Hints}
use Rattle.it_chain.specs.declared.places.Places.{Places}
use Rattle.it_chain.proofs.Candidates.{shown}
use Rattle.it_chain.proofs.Members.{in_cases, in_none}
use Rattle.it_chain.proofs.PlaceLists.{items_mapped, last_pushed, place_more}

-- ---- the hints of an envelope, one after another
pub once_more : (places now : List ℕ) (place : ℕ) (seen here : Bool)
    → is_last place places ≡ false
    → now ≡ (if seen then places ++ place ∷ [] else places)
    → (if here then with_place now place else now)
    ≡ (if seen || here then places ++ place ∷ [] else places)
once_more places now place true true fresh is = rw (is, last_pushed place places) refl
once_more places now place true false fresh is = is
once_more places now place false true fresh is = rw (is, fresh) refl
once_more places now place false false fresh is = is

pub hints_more : (id : List ℕ) (signatures : List Signature) (i : ℕ) (signature : Signature)
    → i < length signatures → signature ≡ get_or signatures i signature
    → hints_at id (take (i + 1) signatures)
    ≡ (hints_at id (take i signatures) || bytes_eq id signature.keyid)
hints_more id signatures i signature below here =
    let test : Signature → Bool = λ s. bytes_eq id s.keyid in
    ap (list_any test) (take_more signatures i signature below
    ∙ ap (λ s. take i signatures ++ s ∷ []) (sym here))
    ∙ list_any-append test (take i signatures) (signature ∷ [])
    ∙ ap (λ b. list_any test (take i signatures) || b) (or-false (test signature))

-- ---- the envelopes, one after another
-- what stands under the hints of the first envelopes
pub record ListedSoFar (envelopes : List Envelope) (count : ℕ) (unhinted : List ℕ) (named : Places)
    : Type 0 where
  pub unhinted_are : items_at envelopes unhinted ≡ filter is_unhinted (take count envelopes)
  pub named_are : (id : List ℕ)
      → items_at envelopes (places_under named id) ≡ filter (is_under id) (take count envelopes)
  pub below : (id : List ℕ) (place : ℕ) → Contains (places_under named id) place → place < count

pub none_listed : (envelopes : List Envelope) (unhinted : List ℕ) (named : Places) → unhinted ≡ []
    → ((id : List ℕ) → places_under named id ≡ []) → ListedSoFar envelopes 0 unhinted named
none_listed envelopes unhinted named none no_names = record {
  unhinted_are = rw none refl;
  named_are = λ id. rw (no_names id) refl;
  below = λ id place among. absurd (in_none place (subst (λ ps. Contains ps place) (no_names id) among));
}

module _ (place : ℕ) (places : List ℕ)
    (below : (other : ℕ) → Contains places other → other < place) where
  last_below : (last : Option ℕ) → slice_get places (length places - 1) ≡ last
      → option_map_or (nat_eq place) last false ≡ false
  last_below None is = refl
  last_below (Some other) is =
      let less = below other (
        length places - 1,
        slice_get_within places (length places - 1) other is,
        sym (unwrap_or-slice_get places (length places - 1) other) ∙ ap (λ o. unwrap_or o other) is,
      ) in grind (arith, less)

  -- a place is not the last of lower ones
  pub not_last : is_last place places ≡ false
  not_last = last_below (slice_get places (length places - 1)) refl

module _ (envelopes : List Envelope) (count : ℕ) (new : Envelope) (within : count < length envelopes)
    (here : slice_get envelopes count ≡ Some new) (is_new : new ≡ get_or envelopes count new) where
  filter_more : (p : Envelope → Bool) → filter p (take (count + 1) envelopes)
      ≡ filter p (take count envelopes) ++ filter p (new ∷ [])
  filter_more p = ap (filter p) (take_more envelopes count new within
      ∙ ap (λ e. take count envelopes ++ e ∷ []) (sym is_new))
      ∙ filter-append p (take count envelopes) (new ∷ [])

  listed : (p : Envelope → Bool) (places : List ℕ) → p new ≡ true
      → items_at envelopes places ≡ filter p (take count envelopes)
      → items_at envelopes (places ++ count ∷ []) ≡ filter p (take (count + 1) envelopes)
  listed p places passes are = place_more envelopes places count new here
      ∙ ap (λ es. es ++ new ∷ []) are
      ∙ ap (λ b. filter p (take count envelopes) ++ cond b (new ∷ []) []) (sym passes)
      ∙ sym (filter_more p)

  passed : (p : Envelope → Bool) (places : List ℕ) → p new ≡ false
      → items_at envelopes places ≡ filter p (take count envelopes)
      → items_at envelopes places ≡ filter p (take (count + 1) envelopes)
  passed p places fails are = are ∙ sym (append-nil (filter p (take count envelopes)))
      ∙ ap (λ b. filter p (take count envelopes) ++ cond b (new ∷ []) []) (sym fails)
      ∙ sym (filter_more p)

  module _ (unhinted : List ℕ) (named : Places)
      (so_far : ListedSoFar envelopes count unhinted named) where
    pub unhinted_more : hints_at [] new.signatures ≡ true
        → ListedSoFar envelopes (count + 1) (unhinted ++ count ∷ []) named
    unhinted_more no_hint = record {
      unhinted_are = listed is_unhinted unhinted no_hint so_far.unhinted_are;
      named_are = λ id. passed (is_under id) (places_under named id)
          (not_under (hints_at id new.signatures) no_hint) (so_far.named_are id);
      below = λ id place among. let less = so_far.below id place among in omega (arith, less);
    } where
      not_under : (b : Bool) → hints_at [] new.signatures ≡ true
          → (b && not (hints_at [] new.signatures)) ≡ false
      not_under true is = rw is refl
      not_under false is = refl

    module _ (next : Places) (closed : hints_at [] new.signatures ≡ false)
        (added : (id : List ℕ) → places_under next id ≡ (if hints_at id new.signatures
        then places_under named id ++ count ∷ [] else places_under named id)) where
      named_of : (id : List ℕ) (b : Bool) → hints_at id new.signatures ≡ b
          → places_under next id
          ≡ (if b then places_under named id ++ count ∷ [] else places_under named id)
          → items_at envelopes (places_under next id)
          ≡ filter (is_under id) (take (count + 1) envelopes)
      named_of id true hint is = rw is (listed (is_under id) (places_under named id)
          (rw (hint, closed) refl) (so_far.named_are id))
      named_of id false hint is = rw is (passed (is_under id) (places_under named id)
          (rw hint refl) (so_far.named_are id))

      below_of : (id : List ℕ) (b : Bool) (place : ℕ)
          → places_under next id
          ≡ (if b then places_under named id ++ count ∷ [] else places_under named id)
          → Contains (places_under next id) place → place < count + 1
      below_of id true place is among = ⊎_elim
          (λ before. let less = so_far.below id place before in omega (arith, less))
          (λ last. ⊎_elim (λ same. omega (arith, same)) (λ later. absurd (in_none place later))
          (in_cases count [] place last))
          (Contains-append_cases (places_under named id) (count ∷ []) place
          (subst (λ ps. Contains ps place) is among))
      below_of id false place is among =
          let less = so_far.below id place (subst (λ ps. Contains ps place) is among) in
          omega (arith, less)

      pub named_more : ListedSoFar envelopes (count + 1) unhinted next
      named_more = record {
        unhinted_are = passed is_unhinted unhinted closed so_far.unhinted_are;
        named_are = λ id. named_of id (hints_at id new.signatures) refl (added id);
        below = λ id place. below_of id (hints_at id new.signatures) place (added id);
      }

-- all envelopes were listed
pub all_listed : (envelopes : List Envelope) (count : ℕ) (hints : Hints)
    → length envelopes ≤ count
    → ListedSoFar envelopes count hints.unhinted.items hints.named → AreHints envelopes hints
all_listed envelopes count hints past so_far =
    let whole : take count envelopes ≡ envelopes = take_all count envelopes past in
    record {
      unhinted = so_far.unhinted_are ∙ ap (filter is_unhinted) whole;
      named = λ id. so_far.named_are id ∙ ap (filter (is_under id)) whole;
    }

-- the envelopes at the places under an id, and those without a hint before them
pub admitted_are : (envelopes : List (Bor Envelope)) (hints : Hints) (id : List ℕ)
    → AreHints (map shown envelopes) hints
    → map shown (items_at envelopes hints.unhinted.items
    ++ items_at envelopes (places_under hints.named id))
    ≡ admitted_for id (map shown envelopes)
admitted_are envelopes hints id are =
    let all = map shown envelopes in
    let first = items_at envelopes hints.unhinted.items in
    let second = items_at envelopes (places_under hints.named id) in
    map-append shown first second
    ∙ ap (λ es. es ++ map shown second)
    (items_mapped shown envelopes hints.unhinted.items ∙ are.unhinted)
    ∙ ap (λ es. filter is_unhinted all ++ es)
    (items_mapped shown envelopes (places_under hints.named id) ∙ are.named id)
