-- Digest sets that are written as JSON objects.
use Rattle.std.proofs.Common.{◌≡◌, ℕ, ◌≤◌, List, false, Option, Some, None, codes, refl, arith}
use Rattle.std.specs.Prelude.{IfSome}
use Rattle.serde_json.specs.Data.{Members, members_depth, depth, no_members, string}
use Rattle.serde_json.specs.Written.{has_float, members_have_float}
use Rattle.hex.specs.Hex.{encode_lower}
use Rattle.it_digest.specs.Digest.{HasDigest, IsDigest, IsDigestSet}
use Rattle.it_digest.specs.DigestSet.{Algorithm, in_sha256, in_sha384, in_sha512, name_of, size_of}
use Rattle.it_digest.specs.DigestSet.{value_in}
use Rattle.it_digest.specs.declared.compare.DigestSet.{DigestSet}
use Rattle.it_making.specs.ArtifactDocuments.{digest_member, digest_set_document}

-- the digest reads back from its text
abbrev pub ReadsBack : ℕ → Option (List ℕ) → Type 0
ReadsBack n digest = IfSome digest (λ bytes. IsDigest n (string (encode_lower bytes)) bytes)

abbrev of_three : (a b c : Option (List ℕ)) → DigestSet
of_three a b c = record { sha256 = a; sha384 = b; sha512 = c }

abbrev Has : Algorithm → DigestSet → Type 0
Has algorithm set = HasDigest (size_of algorithm) (name_of algorithm) (digest_set_document set)
    (value_in algorithm set)

has_sha256 : (a b c : Option (List ℕ)) → ReadsBack 32 a → Has in_sha256 (of_three a b c)
has_sha256 (Some x) b c h = (x, refl, h)
has_sha256 None None None h = refl
has_sha256 None None (Some z) h = refl
has_sha256 None (Some y) None h = refl
has_sha256 None (Some y) (Some z) h = refl

has_sha384 : (a b c : Option (List ℕ)) → ReadsBack 48 b → Has in_sha384 (of_three a b c)
has_sha384 None (Some y) c h = (y, refl, h)
has_sha384 (Some x) (Some y) c h = (y, refl, h)
has_sha384 None None None h = refl
has_sha384 None None (Some z) h = refl
has_sha384 (Some x) None None h = refl
has_sha384 (Some x) None (Some z) h = refl

has_sha512 : (a b c : Option (List ℕ)) → ReadsBack 64 c → Has in_sha512 (of_three a b c)
has_sha512 None None (Some z) h = (z, refl, h)
has_sha512 None (Some y) (Some z) h = (z, refl, h)
has_sha512 (Some x) None (Some z) h = (z, refl, h)
has_sha512 (Some x) (Some y) (Some z) h = (z, refl, h)
has_sha512 None None None h = refl
has_sha512 None (Some y) None h = refl
has_sha512 (Some x) None None h = refl
has_sha512 (Some x) (Some y) None h = refl

has_each : (a b c : Option (List ℕ)) → ReadsBack 32 a → ReadsBack 48 b → ReadsBack 64 c
    → (algorithm : Algorithm) → Has algorithm (of_three a b c)
has_each a b c x y z in_sha256 = has_sha256 a b c x
has_each a b c x y z in_sha384 = has_sha384 a b c y
has_each a b c x y z in_sha512 = has_sha512 a b c z

-- where each digest reads back, so does the set
pub digest_set_reads_back : (set : DigestSet) → ReadsBack 32 set.sha256 → ReadsBack 48 set.sha384
    → ReadsBack 64 set.sha512 → IsDigestSet (digest_set_document set) set
digest_set_reads_back set x y z = record {
  is_object = refl;
  digests = has_each set.sha256 set.sha384 set.sha512 x y z;
}

no_float_in_digest : (name : List ℕ) (digest : Option (List ℕ)) (rest : Members)
    → members_have_float rest ≡ false → members_have_float (digest_member name digest rest) ≡ false
no_float_in_digest name None rest h = h
no_float_in_digest name (Some bytes) rest h = h

pub no_float_in_digests : (set : DigestSet) → has_float (digest_set_document set) ≡ false
no_float_in_digests set =
    no_float_in_digest _ set.sha256 _ (no_float_in_digest _ set.sha384 _
    (no_float_in_digest _ set.sha512 no_members refl))

shallow_digest : (name : List ℕ) (digest : Option (List ℕ)) (rest : Members)
    → members_depth rest ≤ 0 → members_depth (digest_member name digest rest) ≤ 0
shallow_digest name None rest h = h
shallow_digest name (Some bytes) rest h = omega (arith, h)

pub shallow_digests : (set : DigestSet) → depth (digest_set_document set) ≤ 1
shallow_digests set =
    let digests = shallow_digest (codes "sha256") set.sha256 _ (shallow_digest (codes "sha384")
    set.sha384 _ (shallow_digest (codes "sha512") set.sha512 no_members (omega arith))) in
    omega (arith, digests)
