-- The extensions of a certificate that is not refused for them.
use Rattle.std.specs.Prelude.{ℕ, List}
use Rattle.it_certificate.specs.Extension.{Stated, AreExtensions}
use Rattle.it_certificate.specs.Known.{AreKnown}
use Rattle.it_certificate.specs.Permitted.{ArePermitted}
use Rattle.it_certificate.specs.declared.known.Known.{Known}

-- the part is these extensions, which a certificate may have, and this is what is read of them
pub record AreAllowed (content : List ℕ) (extensions : List Stated) (k : Known) : Type 0 where
  pub are : AreExtensions content extensions
  pub permitted : ArePermitted extensions
  pub known : AreKnown extensions k
