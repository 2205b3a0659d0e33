-- The list of timestamps in a certificate (RFC 6962, section 3.3).
use Rattle.std.specs.Prelude.{◌≡◌, ℕ, ◌^◌, ◌<◌, ◌≤◌, List, length}
use Rattle.std.specs.List.{flat_map, AllByRecursion}
use Rattle.it_certificate.specs.Within.{Wraps}
use Rattle.it_certificate_log.specs.Counted.{counted}

-- an item has some bytes, and its length fits in two
abbrev pub IsItem : List ℕ → Type 0
IsItem item = (0 < length item) × (length item < 2 ^ 16)

-- the items come after the length of all of them; there are 1 to 8 (this profile's choice)
pub record IsCountedList (content : List ℕ) (items : List (List ℕ)) : Type 0 where
  pub few : (0 < length items) × (length items ≤ 8)
  pub each : AllByRecursion IsItem items
  pub short : length (flat_map counted items) < 2 ^ 16
  pub written : content ≡ counted (flat_map counted items)

-- the value is an OCTET STRING of such a list
abbrev pub IsItemList : List ℕ → List (List ℕ) → Type 0
IsItemList = Wraps 4 IsCountedList
