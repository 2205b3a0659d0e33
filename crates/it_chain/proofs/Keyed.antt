-- Maps under bytes: what one change leaves under any bytes.
use Rattle.std.proofs.Common.{◌≡◌, ℕ, List, Ordering, Bool, true, false, cond, bytes_eq, Option, refl, sym, subst, ◌∙◌}
use Rattle.std.specs.BTreeMap.{BTreeMap, UpdatesBy, get_by}
use Rattle.std.specs.Cmp.{eq_by_cmp_equiv}
use Rattle.std.specs.Cmp.Lexicographic.{nat_list_eq_equiv, slice_cmp}
use Rattle.std.specs.Ordering.{is_eq, nat_cmp}
use Rattle.std.specs.Map.{KeepsOthers}
use Rattle.std.specs.declared.alloc.Global.{Global}
use Rattle.std.specs.declared.vec.Vec.{Vec}
use Rattle.std.proofs.lemmas.Cmp.{nat_list_cmp_total}
use Rattle.std.proofs.lemmas.Map.Text.{is_eq-slice_cmp}
use Rattle.std.proofs.lemmas.Slice.Eq.{bytes_eq-Decides}

abbrev Key : Type 0
Key = Vec ℕ Global

-- the value under some bytes
abbrev pub get_bytes : {X : Type 0} → BTreeMap Key X → List ℕ → Option X
get_bytes m bytes = get_by (λ key. slice_cmp nat_cmp bytes key.items) m

abbrev key_cmp : Key → Key → Ordering
key_cmp x y = slice_cmp nat_cmp x.items y.items

apart : (bytes p key : List ℕ) → bytes_eq bytes p ≡ false
    → is_eq (slice_cmp nat_cmp bytes key) ≡ true → is_eq (slice_cmp nat_cmp p key) ≡ false
apart bytes p key differ here =
    let same : bytes_eq bytes key ≡ true = sym (is_eq-slice_cmp bytes key) ∙ here in
    is_eq-slice_cmp p key ∙ nat_list_eq_equiv.symm p key
    ∙ sym (nat_list_eq_equiv.congr bytes key p same) ∙ differ

at_others : {X : Type 0} (bytes : List ℕ) (old new : BTreeMap Key X) (w : Option X)
    → UpdatesBy key_cmp (λ key. slice_cmp nat_cmp bytes key.items) old new w → (p : List ℕ)
    → bytes_eq bytes p ≡ false → get_bytes new p ≡ get_bytes old p
unfolding KeepsOthers
at_others bytes old new w h p differ =
    h.3 (λ key. is_eq (slice_cmp nat_cmp p key.items))
    (λ x y. (eq_by_cmp_equiv nat_list_cmp_total).congr p x.items y.items)
    (λ key. apart bytes p key.items differ)

from_case : {X : Type 0} (bytes p : List ℕ) (old new : BTreeMap Key X) (w : Option X)
    → UpdatesBy key_cmp (λ key. slice_cmp nat_cmp bytes key.items) old new w → (same : Bool)
    → bytes_eq bytes p ≡ same → get_bytes new p ≡ cond same w (get_bytes old p)
from_case bytes p old new w h true at =
    let same : bytes ≡ p = (bytes_eq-Decides bytes p).0 at in
    subst (λ q. get_bytes new q ≡ w) same h.1
from_case bytes p old new w h false at = at_others bytes old new w h p at

pub map_updates_bytes : {X : Type 0} (bytes : List ℕ) (old new : BTreeMap Key X) (w : Option X)
    → UpdatesBy key_cmp (λ key. slice_cmp nat_cmp bytes key.items) old new w → (p : List ℕ)
    → get_bytes new p ≡ cond (bytes_eq bytes p) w (get_bytes old p)
map_updates_bytes bytes old new w h p = from_case bytes p old new w h (bytes_eq bytes p) refl
