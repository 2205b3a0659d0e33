-- The index of a ring, which finds what a walk over its entries would find.
use Rattle.std.specs.Prelude.{◌≡◌, ℕ, List, String, position}
use Rattle.std.specs.BTreeMap.{BTreeMap, get, get_by_text}
use Rattle.std.specs.Cmp.Lexicographic.{slice_cmp}
use Rattle.std.specs.Ordering.{nat_cmp}
use Rattle.std.specs.declared.alloc.Global.{Global}
use Rattle.it_dsse.specs.Ring.{has_id, has_key}
use Rattle.it_dsse.specs.declared.ring_entry.RingEntry.{RingEntry}

-- under each id, the place of the entry that has it
abbrev pub PlacesIds : List RingEntry → BTreeMap (String Global) ℕ → Type 0
PlacesIds entries m = (id : List ℕ) → get_by_text m id ≡ position (has_id id) entries

-- under each key, the place of the first entry that has it
abbrev pub PlacesKeys : List RingEntry → BTreeMap (List ℕ) ℕ → Type 0
PlacesKeys entries m =
    (key : List ℕ) → get (slice_cmp nat_cmp) m key ≡ position (has_key key) entries
