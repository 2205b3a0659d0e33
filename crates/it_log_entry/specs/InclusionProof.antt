-- Inclusion proofs of a transparency log (Sigstore's `InclusionProof`).
use Rattle.std.specs.Prelude.{◌≡◌, ℕ, ◌≤◌, List, [], length, codes}
use Rattle.serde_json.specs.Data.{Data}
use Rattle.it_base.specs.Base64Text.{IsBase64}
use Rattle.it_base.specs.Parts.{IsPart, IsPartOr}
use Rattle.it_base.specs.Sequence.{IsList}
use Rattle.it_base.specs.Text.{IsText}
use Rattle.it_log_entry.specs.Number.{IsNumber}
use Rattle.it_log_entry.specs.declared.inclusion_proof.InclusionProof.{InclusionProof}

-- a hash of SHA-256, in base64
pub record IsHash (d : Data) (hash : List ℕ) : Type 0 where
  pub is_base64 : IsBase64 d hash
  pub long : length hash ≡ 32

-- an inclusion proof in a document; a missing index is 0, and missing hashes are none, since the
-- JSON form of protobuf leaves both out. At most 63 hashes are read (this profile's choice)
pub record IsInclusionProof (d : Data) (proof : InclusionProof) : Type 0 where
  pub index : IsPartOr IsNumber 0 (codes "logIndex") d proof.index
  pub size : IsPart IsNumber (codes "treeSize") d proof.size
  pub root : IsPart IsHash (codes "rootHash") d proof.root
  pub path : IsPartOr (IsList IsHash) [] (codes "hashes") d proof.path
  pub path_short : length proof.path ≤ 63
  pub checkpoint : IsPart (IsPart IsText (codes "envelope")) (codes "checkpoint") d proof.checkpoint
