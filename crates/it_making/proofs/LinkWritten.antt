-- Links that are written.
use Rattle.std.proofs.Common.{◌≡◌, ℕ, ◌≤◌, List, ◌++◌, codes, false, Some, refl, ap, arith}
use Rattle.std.specs.FinMap.{entries}
use Rattle.std.specs.Str.{IsUtf8}
use Rattle.serde_json.specs.Data.{Data, depth}
use Rattle.serde_json.specs.Read.{max_depth, read}
use Rattle.serde_json.specs.Written.{compact_text, has_float}
use Rattle.it_digest.specs.Artifacts.{ArtifactMap}
use Rattle.it_docs.specs.Link.{IsLink, LinkOf}
use Rattle.it_docs.specs.declared.link.Link.{Link}
use Rattle.it_making.specs.ArtifactDocuments.{artifacts_document, digest_set_document}
use Rattle.it_docs.proofs.Same.{link_same}
use Rattle.it_making.specs.LinkOutput.{IsLinkOutput, link_document, link_form}
use Rattle.it_making.specs.inside.LinkParts.{IsLinkOfLists}
use Rattle.it_making.proofs.DigestsWritten.{no_float_in_digests, shallow_digests}
use Rattle.it_making.proofs.LineFeeds.{document_feed}
use Rattle.it_making.proofs.TablesWritten.{no_float_in_entries, shallow_entries}

no_float_in_artifacts : (m : ArtifactMap) → has_float (artifacts_document m) ≡ false
no_float_in_artifacts m = no_float_in_entries digest_set_document no_float_in_digests (entries m)

shallow_artifacts : (m : ArtifactMap) → depth (artifacts_document m) ≤ 2
shallow_artifacts m =
    let inside = shallow_entries digest_set_document 1 shallow_digests (entries m) in
    omega (arith, inside)

no_float : (link : Link) → has_float (link_document link) ≡ false
no_float link =
    rw (no_float_in_artifacts link.materials, no_float_in_artifacts link.products) refl

shallow : (link : Link) → depth (link_document link) ≤ max_depth
shallow link = omega (arith, shallow_artifacts link.materials, shallow_artifacts link.products)

-- the text of the document and a line feed are the written form
pub is_link_form : (link : Link) (d : Data) (text : List ℕ) → d ≡ link_document link
    → (has_float d ≡ false → text ≡ compact_text d) → text ++ codes "\n" ≡ link_form link
unfolding link_form
is_link_form link d text is writes =
    ap (λ s. s ++ codes "\n") ((rw is at writes) (no_float link))

-- a text that reads as the document is the link, with a line feed too
pub link_reads_back : (link : Link) (d : Data) (text : List ℕ) → d ≡ link_document link
    → IsUtf8 text → (depth d ≤ max_depth → read text ≡ Some d) → IsLink (link_document link) link
    → LinkOf (text ++ codes "\n") link
link_reads_back link d text is utf8 reads is_link = (
  link_document link,
  document_feed text (link_document link) (record {
    utf8 = utf8;
    reads = (rw is at reads) (shallow link);
  }),
  is_link,
)

-- a text that is the written form, and reads back, is the command's output
pub is_link_output : (name materials products text : List ℕ) (link : Link)
    → IsLinkOfLists name materials products link → text ≡ link_form link → LinkOf text link
    → IsLinkOutput name materials products text
is_link_output name materials products text link lists form reads_back = record {
  link = link;
  name_is = lists.name_is;
  materials_are = lists.materials_are;
  products_are = lists.products_are;
  text_is = form;
  reads_back = reads_back;
  only = λ other h. link_same text other link h reads_back;
}
