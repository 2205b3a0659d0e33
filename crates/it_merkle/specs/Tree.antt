-- Merkle trees (RFC 6962, section 2.1; RFC 9162, section 2.1.1), with SHA-256. An entry is any
-- bytes.
use Rattle.std.specs.Prelude.{◌≡◌, ℕ, ◌*◌, ◌^◌, ◌<◌, ◌≤◌, List, [], ◌∷◌, ◌++◌, length}
use Rattle.sha2.specs.Sha256.{sha256}

-- what is hashed for an entry, and for a node over two others: the first byte tells them apart
abbrev pub leaf_text : List ℕ → List ℕ
leaf_text entry = 0 ∷ entry

abbrev pub node_text : List ℕ → List ℕ → List ℕ
node_text left right = 1 ∷ left ++ right

-- the hash of an entry, and of a node by the hashes of the two that it is over
abbrev pub leaf_hash : List ℕ → List ℕ
leaf_hash entry = sha256 (leaf_text entry)

abbrev pub node_hash : List ℕ → List ℕ → List ℕ
node_hash left right = sha256 (node_text left right)

-- k is the largest power of two below n
pub record IsSplit (n k : ℕ) : Type 0 where
  pub exponent : ℕ
  pub power : k ≡ 2 ^ exponent
  pub below : k < n
  pub largest : n ≤ 2 * k

-- the root of a tree of entries (MTH): of more than one, the first are as many as the largest power
-- of two that leaves some
pub data IsRoot : List (List ℕ) → List ℕ → Type 0 where
  empty : IsRoot [] (sha256 [])
  leaf : {entry : List ℕ} → IsRoot (entry ∷ []) (leaf_hash entry)
  node : {front back : List (List ℕ)} {left right : List ℕ}
      → IsSplit (length (front ++ back)) (length front) → IsRoot front left → IsRoot back right
      → IsRoot (front ++ back) (node_hash left right)
