-- What bytes begin with, as the readers of counted bytes and of items have it.
use Rattle.std.specs.Prelude.{◌≡◌, ℕ, ◌^◌, ◌<◌, List, ◌++◌, length}
use Rattle.std.specs.List.{flat_map, AllByRecursion}
use Rattle.it_certificate_log.specs.Counted.{counted}
use Rattle.it_certificate_log.specs.Items.{IsItem}

-- the bytes begin with a content after its length, and what comes after it is the rest
pub record BeginsCounted (bytes content rest : List ℕ) : Type 0 where
  pub short : length content < 2 ^ 16
  pub written : bytes ≡ counted content ++ rest

-- the bytes begin with an item, and what comes after it is the rest
pub record BeginsItem (bytes item rest : List ℕ) : Type 0 where
  pub some : 0 < length item
  pub begins : BeginsCounted bytes item rest

-- the bytes are these items, each after its length
pub record AreItems (bytes : List ℕ) (items : List (List ℕ)) : Type 0 where
  pub each : AllByRecursion IsItem items
  pub written : bytes ≡ flat_map counted items
