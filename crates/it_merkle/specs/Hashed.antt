-- Which texts are hashed, and when two of them collide (words of this project).
use Rattle.std.specs.Prelude.{◌≡◌, ◌≢◌, ℕ, List, [], ◌∷◌, ◌++◌, Contains}
use Rattle.sha2.specs.Sha256.{sha256}
use Rattle.it_merkle.specs.Tree.{IsRoot, empty, leaf, node, leaf_text, node_text}
use Rattle.it_merkle.specs.Proof.{Leads, at_leaf, from_front, from_back}

-- the texts that are hashed for the root of some entries
abbrev pub hashed_for : {entries : List (List ℕ)} {root : List ℕ} → IsRoot entries root
    → List (List ℕ)
hashed_for empty = [] ∷ []
hashed_for (leaf {entry = entry}) = leaf_text entry ∷ []
hashed_for (node {left = left} {right = right} split front back) =
    node_text left right ∷ hashed_for front ++ hashed_for back

-- the texts that are hashed on the way from an entry to a root
abbrev pub hashed_from : {hash : List ℕ} {index size : ℕ} {path : List (List ℕ)} {root : List ℕ}
    → List ℕ → Leads hash index size path root → List (List ℕ)
hashed_from entry at_leaf = leaf_text entry ∷ []
hashed_from entry (from_front {root = root} beside split below way) =
    node_text root beside ∷ hashed_from entry way
hashed_from entry (from_back {root = root} beside split above way) =
    node_text beside root ∷ hashed_from entry way

-- one of the texts and one of the others are not the same, and have one SHA-256
pub record Collide (texts others : List (List ℕ)) : Type 0 where
  pub one : List ℕ
  pub other : List ℕ
  pub is_text : Contains texts one
  pub is_other : Contains others other
  pub differ : one ≢ other
  pub same_hash : sha256 one ≡ sha256 other
