-- The parts of a link that is made of digest lists.
use Rattle.std.specs.Prelude.{◌≡◌, ℕ, List}
use Rattle.it_digest.specs.DigestSet.{in_sha256}
use Rattle.it_digest.specs.Sums.{IsFirstBadLine, SumsOf}
use Rattle.it_docs.specs.declared.link.Link.{Link}
use Rattle.it_outcome.specs.declared.outcome.RunFault.{RunFault}
use Rattle.it_outcome.specs.declared.outcome.RunFault.TheVariants.{
  OutOfMemory,
  BadMaterials,
  BadProducts,
}

-- the link of this name and these lists
pub record IsLinkOfLists (name materials products : List ℕ) (link : Link) : Type 0 where
  pub name_is : link.name ≡ name
  pub materials_are : SumsOf in_sha256 materials link.materials
  pub products_are : SumsOf in_sha256 products link.products

-- why materials are not read
abbrev pub IsMaterialsFault : List ℕ → RunFault → Type 0
IsMaterialsFault bytes OutOfMemory = Unit {0}
IsMaterialsFault bytes (BadMaterials line) = IsFirstBadLine in_sha256 bytes line
IsMaterialsFault bytes other = ⊥

-- why products are not read
abbrev pub IsProductsFault : List ℕ → RunFault → Type 0
IsProductsFault bytes OutOfMemory = Unit {0}
IsProductsFault bytes (BadProducts line) = IsFirstBadLine in_sha256 bytes line
IsProductsFault bytes other = ⊥
