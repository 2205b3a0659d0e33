-- Links (in-toto 1.0 section 4.4).
use Rattle.std.specs.Prelude.{ℕ, List, codes}
use Rattle.std.specs.FinMap.{empty}
use Rattle.serde_json.specs.Data.{Data}
use Rattle.it_base.specs.Document.{OfDocument}
use Rattle.it_base.specs.Parts.{IsPart, IsPartOr}
use Rattle.it_base.specs.Text.{IsText}
use Rattle.it_digest.specs.Digest.{IsDigestSet}
use Rattle.it_base.specs.Table.{IsTable}
use Rattle.it_docs.specs.declared.link.Link.{Link}

-- a link in a document; missing maps are empty (this profile's choice)
pub record IsLink (d : Data) (link : Link) : Type 0 where
  pub type_is : IsPart IsText (codes "_type") d (codes "link")
  pub name : IsPart IsText (codes "name") d link.name
  pub materials : IsPartOr (IsTable IsDigestSet) empty (codes "materials") d link.materials
  pub products : IsPartOr (IsTable IsDigestSet) empty (codes "products") d link.products

-- the bytes are a document that is this link
abbrev pub LinkOf : List ℕ → Link → Type 0
LinkOf = OfDocument IsLink
