-- That no id stands twice in a ring, as its table of places grows.
use Rattle.std.proofs.Common.{◌≡◌, ℕ, ◌+◌, ◌<◌, List, [], ◌∷◌, ◌++◌, Bool, true, false, cond, ◌||◌}
use Rattle.std.proofs.Common.{Option, Some, None, length, take, get_or, refl, sym, ap, arith, ◌∙◌}
use Rattle.std.specs.List.{IsDistinct, list_any, position, position_from}
use Rattle.std.specs.Str.{bytes_eq}
use Rattle.std.proofs.lemmas.Cmp.{nat_list_eq_equiv}
use Rattle.std.proofs.lemmas.Iterator.Adapters.{position_from-zero}
use Rattle.std.proofs.lemmas.List.{get_or-map, get_or-take, length-map, length-take-le, map-append}
use Rattle.std.proofs.lemmas.List.{take_more}
use Rattle.std.proofs.lemmas.List.Quantifiers.{position-Some}
use Rattle.std.proofs.lemmas.Map.Keys.{IsDistinct-push, apart_from_distinct}
use Rattle.it_dsse.specs.Ring.{has_id, ids_of}
use Rattle.it_dsse.specs.declared.ring_entry.RingEntry.{RingEntry}

none_of : (i : ℕ) (b t : Bool) (r : Option ℕ) → None ≡ cond b (Some i) r → (None ≡ r → t ≡ false)
    → (b || t) ≡ false
none_of i true t r e h = cc
none_of i false t r e h = h e

none_placed : (id : List ℕ) (i : ℕ) (entries : List RingEntry)
    → None ≡ position_from (has_id id) i entries → list_any (bytes_eq id) (ids_of entries) ≡ false
none_placed id i [] e = refl
none_placed id i (x ∷ xs) e =
    let here : bytes_eq x.id id ≡ bytes_eq id x.id = nat_list_eq_equiv.symm x.id id in
    none_of i (bytes_eq id x.id) (list_any (bytes_eq id) (ids_of xs))
    (position_from (has_id id) (i + 1) xs)
    (rw here at e) (none_placed id (i + 1) xs)

-- one more id, which has no place yet
pub distinct_more : (entries : List RingEntry) (i : ℕ) (entry : RingEntry) → i < length entries
    → entry ≡ get_or entries i entry
    → IsDistinct bytes_eq (ids_of (take i entries)) → None ≡ position (has_id entry.id)
    (take i entries)
    → IsDistinct bytes_eq (ids_of (take (i + 1) entries))
distinct_more entries i entry below here before none =
    let cut : take (i + 1) entries ≡ take i entries ++ entry ∷ [] = take_more entries i entry below
    ∙ ap (λ y. take i entries ++ y ∷ []) (sym here) in
    let ids : ids_of (take (i + 1) entries) ≡ ids_of (take i entries) ++ entry.id ∷ [] =
    ap ids_of cut ∙ map-append (λ e. e.id) (take i entries) (entry ∷ []) in
    rw ids (IsDistinct-push nat_list_eq_equiv (ids_of (take i entries)) entry.id before
    (none_placed entry.id 0 (take i entries) (none ∙ position_from-zero (has_id entry.id)
    (take i entries))))

-- an id that has a place already stands twice
pub stands_twice : (entries : List RingEntry) (i : ℕ) (entry : RingEntry) (n : ℕ)
    → i < length entries → entry ≡ get_or entries i entry
    → Some n ≡ position (has_id entry.id) (take i entries) → ¬ IsDistinct bytes_eq (ids_of entries)
stands_twice entries i entry n below here there distinct =
    let found = position-Some (has_id entry.id) (take i entries) n entry (sym there) in
    let long : length (take i entries) ≡ i = length-take-le i entries (omega arith) in
    let first : n < i = omega (arith, found.0) in
    let same : bytes_eq (get_or entries n entry).id entry.id ≡ true = rw get_or-take at found.1 in
    let apart : bytes_eq (get_or (ids_of entries) n []) (get_or (ids_of entries) i []) ≡ false =
    apart_from_distinct bytes_eq (ids_of entries) n i [] distinct first (rw length-map below) in
    let first_id : get_or (ids_of entries) n [] ≡ (get_or entries n entry).id =
    get_or-map (λ e. e.id) entries n entry [] (omega arith) in
    let this_id : get_or (ids_of entries) i [] ≡ entry.id =
    get_or-map (λ e. e.id) entries i entry [] below ∙ ap (λ e. e.id) (sym here) in
    let differ : bytes_eq (get_or entries n entry).id entry.id ≡ false =
    rw (first_id, this_id) at apart in
    cc
