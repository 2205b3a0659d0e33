-- What is true of every tree and every path.
use Rattle.std.specs.Prelude.{◌≡◌, ℕ, ◌<◌, ◌⊎◌, List, length, Some, slice_get}
use Rattle.it_merkle.specs.Tree.{IsRoot, leaf_hash}
use Rattle.it_merkle.specs.Proof.{IsPath, Leads}
use Rattle.it_merkle.specs.Hashed.{Collide, hashed_for, hashed_from}

-- a tree has one root
abbrev pub OneRoot : Type 0
OneRoot = (entries : List (List ℕ))
    → (root : List ℕ) × IsRoot entries root
    × ((other : List ℕ) → IsRoot entries other → root ≡ other)

-- each entry has a path
abbrev pub SomePath : Type 0
SomePath = (entries : List (List ℕ)) (index : ℕ) → index < length entries
    → (path : List (List ℕ)) × IsPath index entries path

-- a path leads to one root at most
abbrev pub OneEnd : Type 0
OneEnd = (hash : List ℕ) (index size : ℕ) (path : List (List ℕ)) (root other : List ℕ)
    → Leads hash index size path root → Leads hash index size path other → root ≡ other

-- the path of an entry leads from its hash to the root
abbrev pub PathLeads : Type 0
PathLeads = (entries path : List (List ℕ)) (index : ℕ) (entry root : List ℕ)
    → slice_get entries index ≡ Some entry → IsPath index entries path → IsRoot entries root
    → Leads (leaf_hash entry) index (length entries) path root

-- what a path leads from to the root of some entries is one of them, in its place; or a text that
-- is hashed for the root and one that is hashed on the way collide
abbrev pub LeadsFromEntry : Type 0
LeadsFromEntry = (entries path : List (List ℕ)) (index : ℕ) (entry root : List ℕ)
    → (tree : IsRoot entries root)
    → (way : Leads (leaf_hash entry) index (length entries) path root)
    → (slice_get entries index ≡ Some entry) ⊎ Collide (hashed_for tree) (hashed_from entry way)
