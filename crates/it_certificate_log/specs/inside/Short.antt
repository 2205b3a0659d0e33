-- Extensions that fit in an element. Nothing here is trusted.
use Rattle.std.specs.Prelude.{ℕ, ◌^◌, ◌<◌, List, length}
use Rattle.it_certificate.specs.Extension.{IsExtension, Stated}

-- the content of the extension is short enough
pub record IsShortExtension (e : Stated) : Type 0 where
  pub content : List ℕ
  pub short : length content < 2 ^ 16
  pub is : IsExtension content e
