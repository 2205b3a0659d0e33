-- Which link bytes are, as an answer.
use Rattle.std.proofs.Common.{◌≡◌, ℕ, List, Bool, false, cond, codes, Option, Some, None}
use Rattle.std.proofs.Common.{MatchOption, option_and_then, option_map, is_some, IsTrue, Decides}
use Rattle.std.proofs.Common.{refl}
use Rattle.std.specs.FinMap.{empty}
use Rattle.std.specs.Result.{result_ok}
use Rattle.std.specs.Str.{bytes_eq}
use Rattle.std.proofs.lemmas.Slice.Eq.{bytes_eq-Decides}
use Rattle.hex.specs.Hex.{decode_sized}
use Rattle.serde_json.specs.Data.{Data}
use Rattle.serde_json.specs.Find.{as_object, as_str}
use Rattle.it_base.specs.Document.{member_at}
use Rattle.it_base.specs.Finds.{Finds}
use Rattle.it_base.specs.Parts.{IsPart, IsPartOr}
use Rattle.it_base.specs.Text.{IsText}
use Rattle.it_base.proofs.Decided.{Reads, both_of, document_of, document_reads, finds_both}
use Rattle.it_base.proofs.Decided.{finds_like, finds_where, part_of, part_or_of, part_or_reads}
use Rattle.it_base.proofs.Decided.{part_reads, text_reads}
use Rattle.it_glob.proofs.Decided.{never}
use Rattle.it_digest.specs.DigestSet.{Algorithm, in_sha256, in_sha384, in_sha512, name_of, size_of}
use Rattle.it_digest.specs.DigestSet.{value_in}
use Rattle.it_digest.specs.declared.compare.DigestSet.{DigestSet}
use Rattle.it_digest.specs.Digest.{HasDigest, IsDigest, IsDigestSet}
use Rattle.it_docs.specs.Link.{IsLink, LinkOf}
use Rattle.it_base.specs.Table.{IsTable, Named}
use Rattle.it_docs.specs.declared.link.Link.{Link}
use Rattle.it_base.proofs.TableDecided.{table_of, table_reads}

abbrev is_text : List ℕ → Option (List ℕ) → Bool
is_text text None = false
is_text text (Some found) = bytes_eq found text

-- decides whether the member of this name is this text
abbrev pub has_text : List ℕ → List ℕ → Data → Bool
has_text name text d = is_text text (option_and_then as_str (member_at name d))

is_text-Decides : (text : List ℕ) (found : Option (List ℕ))
    → Decides (is_text text found) (found ≡ Some text)
is_text-Decides text None = never (λ e. cc)
is_text-Decides text (Some found) = let same = bytes_eq-Decides found text in
    (λ h. let e = same.0 h in cc, λ e. same.1 (cc))

member_is_text : (text : List ℕ) (found : Option Data)
    → Decides (is_text text (option_and_then as_str found))
    (MatchOption found ⊥ (λ v. IsText v text))
member_is_text text None = never (λ h. h)
member_is_text text (Some v) = is_text-Decides text (as_str v)

pub has_text-Decides : (name text : List ℕ) (d : Data) → Decides (has_text name text d)
    (IsPart IsText name d text)
has_text-Decides name text d = member_is_text text (member_at name d)

abbrev IsSomeDigest : ℕ → Data → Option (List ℕ) → Type 0
IsSomeDigest n d digest = (bytes : List ℕ) × (digest ≡ Some bytes) × IsDigest n d bytes

abbrev digest_of : ℕ → Data → Option (Option (List ℕ))
digest_of n d = option_map Some (option_and_then (λ text. result_ok (decode_sized text n))
    (as_str d))

abbrev digest_set_with : Option (List ℕ) × (Option (List ℕ) × Option (List ℕ)) → DigestSet
digest_set_with values = record { sha256 = values.0; sha384 = values.1.0; sha512 = values.1.1 }

-- what stands under the name of an algorithm of n bytes, if it is a digest
abbrev digest_part : ℕ → List ℕ → Data → Option (Option (List ℕ))
digest_part n = part_or_of (digest_of n) None

-- decides `IsDigestSet`
abbrev pub digest_set_of : Data → Option DigestSet
digest_set_of d =
    option_map digest_set_with
    (cond (is_some (as_object d)) (both_of (digest_part 32 (codes "sha256") d)
    (both_of (digest_part 48 (codes "sha384") d) (digest_part 64 (codes "sha512") d))) None)

-- decides where artifacts are a part, or are missing
abbrev artifacts_of : List ℕ → Data → Option (Named DigestSet)
artifacts_of = part_or_of (table_of digest_set_of) empty

digest_found : (found : Option (List ℕ)) → Finds (λ digest. (bytes : List ℕ) × (digest ≡ Some bytes)
    × (found ≡ Some bytes)) (option_map Some found)
digest_found None = λ digest h. let e = h.2 in cc
digest_found (Some bytes) = (bytes, refl, refl)

digest_reads : (n : ℕ) → Reads (IsSomeDigest n) (digest_of n)
digest_reads n d = digest_found (option_and_then (λ text. result_ok (decode_sized text n))
    (as_str d))

digest_part_reads : (n : ℕ) (name : List ℕ) → Reads (HasDigest n name) (digest_part n name)
digest_part_reads n name = part_or_reads (IsSomeDigest n) (digest_of n) (digest_reads n) None name

-- a digest set, from what stands under each algorithm
pub is_digest_set : (d : Data) (set : DigestSet) → IsTrue (is_some (as_object d))
    → HasDigest 32 (codes "sha256") d set.sha256 → HasDigest 48 (codes "sha384") d set.sha384
    → HasDigest 64 (codes "sha512") d set.sha512 → IsDigestSet d set
is_digest_set d set is sha256 sha384 sha512 = record { is_object = is; digests = each }
  where
    each : (algorithm : Algorithm) → HasDigest (size_of algorithm) (name_of algorithm) d
        (value_in algorithm set)
    each in_sha256 = sha256
    each in_sha384 = sha384
    each in_sha512 = sha512

pub digest_set_reads : Reads IsDigestSet digest_set_of
digest_set_reads d =
    let longer = λ (p : Option (List ℕ) × Option (List ℕ)). HasDigest 48 (codes "sha384") d p.0
    × HasDigest 64 (codes "sha512") d p.1 in
    finds_like _ (IsDigestSet d) digest_set_with (λ s. (s.sha256, (s.sha384, s.sha512)))
    (λ p h. is_digest_set d (digest_set_with p) h.0 h.1.0 h.1.1.0 h.1.1.1)
    (λ s h. (h.is_object, (h.digests in_sha256, (h.digests in_sha384, h.digests in_sha512)))) _
    (finds_where (λ p. HasDigest 32 (codes "sha256") d p.0 × longer p.1) (is_some (as_object d)) _
    (λ h. h, λ h. h)
    (finds_both (HasDigest 32 (codes "sha256") d) longer _ _
    (digest_part_reads 32 (codes "sha256") d)
    (finds_both (HasDigest 48 (codes "sha384") d) (HasDigest 64 (codes "sha512") d) _ _
    (digest_part_reads 48 (codes "sha384") d) (digest_part_reads 64 (codes "sha512") d))))

artifacts_reads : (name : List ℕ) → Reads (IsPartOr (IsTable IsDigestSet) empty name)
    (artifacts_of name)
artifacts_reads = part_or_reads (IsTable IsDigestSet) (table_of digest_set_of)
    (table_reads IsDigestSet digest_set_of digest_set_reads) empty

abbrev link_with : List ℕ × (Named DigestSet × Named DigestSet) → Link
link_with parts = record { name = parts.0; materials = parts.1.0; products = parts.1.1 }

-- decides `IsLink`
abbrev link_part_of : Data → Option Link
link_part_of d =
    option_map link_with
    (cond (has_text (codes "_type") (codes "link") d)
    (both_of (part_of as_str (codes "name") d) (both_of (artifacts_of (codes "materials") d)
    (artifacts_of (codes "products") d))) None)

-- decides `LinkOf`
pub link_of : List ℕ → Option Link
link_of bytes = document_of link_part_of bytes

link_reads : Reads IsLink link_part_of
link_reads d =
    let materials = IsPartOr (IsTable IsDigestSet) empty (codes "materials") d in
    let products = IsPartOr (IsTable IsDigestSet) empty (codes "products") d in
    finds_like _ (IsLink d) link_with (λ l. (l.name, (l.materials, l.products)))
    (λ p h. record { type_is = h.0; name = h.1.0; materials = h.1.1.0; products = h.1.1.1 })
    (λ l h. (h.type_is, (h.name, (h.materials, h.products)))) _
    (finds_where (λ p. IsPart IsText (codes "name") d p.0 × (materials p.1.0 × products p.1.1))
    (has_text (codes "_type") (codes "link") d) _
    (has_text-Decides (codes "_type") (codes "link") d)
    (finds_both (IsPart IsText (codes "name") d) (λ p. materials p.0 × products p.1) _ _
    (part_reads IsText as_str text_reads (codes "name") d)
    (finds_both materials products _ _ (artifacts_reads (codes "materials") d)
    (artifacts_reads (codes "products") d))))

pub link_of-finds : (bytes : List ℕ) → Finds (LinkOf bytes) (link_of bytes)
unfolding link_of
link_of-finds = document_reads IsLink link_part_of link_reads
