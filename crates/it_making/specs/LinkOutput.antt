-- What `itv link` writes: the body of a link (in-toto 1.0 section 4.4).
use Rattle.std.specs.Prelude.{◌≡◌, ℕ, List, ◌++◌, codes}
use Rattle.serde_json.specs.Data.{Data, member, no_members, object, string}
use Rattle.serde_json.specs.Written.{compact_text}
use Rattle.it_digest.specs.Artifacts.{ArtifactMap}
use Rattle.it_digest.specs.DigestSet.{in_sha256}
use Rattle.it_digest.specs.Sums.{IsFirstBadLine, SumsOf}
use Rattle.it_docs.specs.Link.{LinkOf}
use Rattle.it_docs.specs.declared.link.Link.{Link}
use Rattle.it_outcome.specs.declared.outcome.RunFault.{RunFault}
use Rattle.it_outcome.specs.declared.outcome.RunFault.TheVariants.{
  Write,
  OutOfMemory,
  BadMaterials,
  BadProducts,
}
use Rattle.it_making.specs.ArtifactDocuments.{artifacts_document}

-- a link as a JSON object, its members in the order of their bytes (this profile's choice)
abbrev pub link_document : Link → Data
link_document link = object
    (member (codes "_type") (string (codes "link"))
    (member (codes "materials") (artifacts_document link.materials)
    (member (codes "name") (string link.name)
    (member (codes "products") (artifacts_document link.products)
    no_members))))

-- the written form of a link: its JSON text with no space, and a line feed (this profile's choice)
unfoldable pub link_form : Link → List ℕ
link_form link = compact_text (link_document link) ++ codes "\n"

-- the text is the written form of the link of this name and of these two digest lists by SHA-256,
-- and reads back as that link and no other
pub record IsLinkOutput (name materials products text : List ℕ) : Type 0 where
  pub link : Link
  pub name_is : link.name ≡ name
  pub materials_are : SumsOf in_sha256 materials link.materials
  pub products_are : SumsOf in_sha256 products link.products
  pub text_is : text ≡ link_form link
  pub reads_back : LinkOf text link
  pub only : (other : Link) → LinkOf text other → other ≡ link

-- why the command stops: a bad line of the materials, otherwise of the products, or a fault that
-- any command may have
abbrev pub IsLinkFault : (materials products : List ℕ) → RunFault → Type 0
IsLinkFault materials products Write = Unit {0}
IsLinkFault materials products OutOfMemory = Unit {0}
IsLinkFault materials products (BadMaterials line) = IsFirstBadLine in_sha256 materials line
IsLinkFault materials products (BadProducts line) =
    ((sums : ArtifactMap) × SumsOf in_sha256 materials sums)
    × IsFirstBadLine in_sha256 products line
IsLinkFault materials products other = ⊥
