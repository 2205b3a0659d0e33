-- Inclusion proofs (RFC 6962, section 2.1.1; RFC 9162, section 2.1.3): a path has the hashes of the
-- subtrees beside the way from an entry to the root, the lowest first.
use Rattle.std.specs.Prelude.{ℕ, ◌+◌, ◌-◌, ◌<◌, ◌≤◌, List, [], ◌∷◌, ◌++◌, length}
use Rattle.it_merkle.specs.Tree.{IsSplit, IsRoot, node_hash}

-- the path of the entry at an index (PATH)
pub data IsPath : ℕ → List (List ℕ) → List (List ℕ) → Type 0 where
  alone : {entry : List ℕ} → IsPath 0 (entry ∷ []) []
  in_front : {index : ℕ} {front back path : List (List ℕ)} {beside : List ℕ}
      → IsSplit (length (front ++ back)) (length front) → index < length front
      → IsPath index front path → IsRoot back beside
      → IsPath index (front ++ back) (path ++ beside ∷ [])
  in_back : {index : ℕ} {front back path : List (List ℕ)} {beside : List ℕ}
      → IsSplit (length (front ++ back)) (length front)
      → IsPath index back path → IsRoot front beside
      → IsPath (length front + index) (front ++ back) (path ++ beside ∷ [])

-- from a hash at an index, a path leads to the root of a tree of so many entries
pub data Leads (hash : List ℕ) : ℕ → ℕ → List (List ℕ) → List ℕ → Type 0 where
  at_leaf : Leads hash 0 1 [] hash
  from_front : {index size split : ℕ} {path : List (List ℕ)} {root : List ℕ} (beside : List ℕ)
      → IsSplit size split → index < split → Leads hash index split path root
      → Leads hash index size (path ++ beside ∷ []) (node_hash root beside)
  from_back : {index size split : ℕ} {path : List (List ℕ)} {root : List ℕ} (beside : List ℕ)
      → IsSplit size split → split ≤ index → Leads hash (index - split) (size - split) path root
      → Leads hash index size (path ++ beside ∷ []) (node_hash beside root)
