-- The ways on which paths lead to roots.
use Rattle.std.proofs.Common.{◌≡◌, ℕ, ◌-◌, ◌<◌, ◌≤◌, List, [], ◌∷◌, ◌++◌}
use Rattle.std.proofs.Common.{length, refl, sym, ap, subst, ◌∙◌, arith, lit<}
use Rattle.std.proofs.Common.{Bool, true, ◌==◌, IsTrue, ◌↔◌}
use Rattle.std.specs.Bool.{Decides}
use Rattle.std.proofs.lemmas.Bool.{eqb-true}
use Rattle.std.proofs.lemmas.List.{same_from_push, nil_from_length}
use Rattle.sha2.proofs.Facts256.{length-sha256}
use Rattle.it_merkle.specs.Tree.{IsSplit, node_hash}
use Rattle.it_merkle.specs.Proof.{Leads, at_leaf, from_front, from_back}
use Rattle.it_merkle.proofs.Splits.{one_split, more_than_one}

-- an index is below the size
pub index_below : {hash root : List ℕ} {index size : ℕ} {path : List (List ℕ)} → Leads hash index size path root → index < size
index_below at_leaf = lit< tt
index_below (from_front beside s below way) = let under = s.below in omega arith
index_below (from_back beside s above way) = let under = index_below way in omega arith

-- in a tree of one entry the path is empty, and leads to the hash itself
pub alone : {hash root : List ℕ} {index size : ℕ} {path : List (List ℕ)} → Leads hash index size path root → size ≡ 1
    → (length path ≡ 0) × (root ≡ hash)
alone at_leaf one = (refl, refl)
alone (from_front beside s below way) one = let more = more_than_one _ _ s in absurd (omega arith)
alone (from_back beside s above way) one = let more = more_than_one _ _ s in absurd (omega arith)

-- what the way below a root is, from the front
pub record FromFront (hash : List ℕ) (index split : ℕ) (path : List (List ℕ)) (beside root : List ℕ) : Type 0 where
  pub below : List ℕ
  pub way : Leads hash index split path below
  pub root_is : root ≡ node_hash below beside

pub record FromBack (hash : List ℕ) (index size split : ℕ) (path : List (List ℕ)) (beside root : List ℕ) : Type 0 where
  pub below : List ℕ
  pub way : Leads hash (index - split) (size - split) path below
  pub root_is : root ≡ node_hash beside below

pub in_front_half : {hash root : List ℕ} {index size : ℕ} {path : List (List ℕ)} → Leads hash index size path root
    → (split : ℕ) (rest : List (List ℕ)) (last : List ℕ) → IsSplit size split → index < split → path ≡ rest ++ last ∷ []
    → FromFront hash index split rest last root
in_front_half at_leaf split rest last s below e = let more = more_than_one _ _ s in absurd (omega arith)
in_front_half {hash = h} (from_front {index = i} {size = n} {split = k} {path = path} {root = r} p s' below' way) split rest last s below e =
    let same = same_from_push path rest p last e in
    let at : k ≡ split = one_split n k split s' s in
    record {
      below = r;
      way = subst (λ (x : ℕ). Leads h i x rest r) at (subst (λ (x : List (List ℕ)). Leads h i k x r) same.0 way);
      root_is = ap (λ (x : List ℕ). node_hash r x) same.1;
    }
in_front_half (from_back {index = i} {size = n} {split = k} beside s' above way) split rest last s below e =
    let at : k ≡ split = one_split n k split s' s in absurd (omega arith)

pub in_back_half : {hash root : List ℕ} {index size : ℕ} {path : List (List ℕ)} → Leads hash index size path root
    → (split : ℕ) (rest : List (List ℕ)) (last : List ℕ) → IsSplit size split → split ≤ index → path ≡ rest ++ last ∷ []
    → FromBack hash index size split rest last root
in_back_half at_leaf split rest last s above e = let more = more_than_one _ _ s in absurd (omega arith)
in_back_half (from_front {index = i} {size = n} {split = k} beside s' below way) split rest last s above e =
    let at : k ≡ split = one_split n k split s' s in absurd (omega arith)
in_back_half {hash = h} (from_back {index = i} {size = n} {split = k} {path = path} {root = r} p s' above' way) split rest last s above e =
    let same = same_from_push path rest p last e in
    let at : k ≡ split = one_split n k split s' s in
    record {
      below = r;
      way = subst (λ (x : ℕ). Leads h (i - x) (n - x) rest r) at (subst (λ (x : List (List ℕ)). Leads h (i - k) (n - k) x r) same.0 way);
      root_is = ap (λ (x : List ℕ). node_hash x r) same.1;
    }

-- a path leads to one root at most
pub one_end : {hash root : List ℕ} {index size : ℕ} {path : List (List ℕ)} → Leads hash index size path root
    → (other : List ℕ) → Leads hash index size path other → root ≡ other
one_end at_leaf other way = sym (alone way refl).1
one_end (from_front {split = k} {path = path} {root = r} p s below way) other way' =
    let half = in_front_half way' k path p s below refl in
    let same : r ≡ half.below = one_end way half.below half.way in
    let is = half.root_is in
    cc
one_end (from_back {split = k} {path = path} {root = r} p s above way) other way' =
    let half = in_back_half way' k path p s above refl in
    let same : r ≡ half.below = one_end way half.below half.way in
    let is = half.root_is in
    cc

-- a way from a digest ends at one
pub length-end : {hash root : List ℕ} {index size : ℕ} {path : List (List ℕ)} → Leads hash index size path root
    → length hash ≡ 32 → length root ≡ 32
length-end at_leaf h = h
length-end (from_front beside s below way) h = length-sha256 _
length-end (from_back beside s above way) h = length-sha256 _

-- from the hash of the only entry the empty path leads to it
pub of_one : (hash : List ℕ) (index size : ℕ) (path : List (List ℕ)) → index < size → size ≡ 1 → length path ≡ 0
    → Leads hash index size path hash
of_one hash index size path below one none =
    let first : 0 ≡ index = omega arith in
    subst (λ (i : ℕ). Leads hash i size path hash) first
    (subst (λ (n : ℕ). Leads hash 0 n path hash) (sym one)
    (subst (λ (p : List (List ℕ)). Leads hash 0 1 p hash) (sym (nil_from_length path none)) at_leaf))

-- what the way through the front, and that through the back, says of the whole
pub front_leads : (hash : List ℕ) (index size split : ℕ) (path rest : List (List ℕ)) (last left root : List ℕ)
    → IsSplit size split → index < split → path ≡ rest ++ last ∷ [] → Leads hash index split rest left
    → root ≡ node_hash left last → Leads hash index size path root
front_leads hash index size split path rest last left root s below e way is =
    subst (λ (p : List (List ℕ)). Leads hash index size p root) (sym e)
    (subst (λ (r : List ℕ). Leads hash index size (rest ++ last ∷ []) r) (sym is) (from_front last s below way))

pub back_leads : (hash : List ℕ) (index size split : ℕ) (path rest : List (List ℕ)) (last right root : List ℕ)
    → IsSplit size split → split ≤ index → path ≡ rest ++ last ∷ [] → Leads hash (index - split) (size - split) rest right
    → root ≡ node_hash last right → Leads hash index size path root
back_leads hash index size split path rest last right root s above e way is =
    subst (λ (p : List (List ℕ)). Leads hash index size p root) (sym e)
    (subst (λ (r : List ℕ). Leads hash index size (rest ++ last ∷ []) r) (sym is) (from_back last s above way))

pub none_in_front : (hash : List ℕ) (index size split : ℕ) (path rest : List (List ℕ)) (last : List ℕ)
    → IsSplit size split → index < split → path ≡ rest ++ last ∷ []
    → ((root : List ℕ) → Leads hash index split rest root → ⊥) → (root : List ℕ) → Leads hash index size path root → ⊥
none_in_front hash index size split path rest last s below e none root way =
    let half = in_front_half way split rest last s below e in none half.below half.way

pub none_in_back : (hash : List ℕ) (index size split : ℕ) (path rest : List (List ℕ)) (last : List ℕ)
    → IsSplit size split → split ≤ index → path ≡ rest ++ last ∷ []
    → ((root : List ℕ) → Leads hash (index - split) (size - split) rest root → ⊥)
    → (root : List ℕ) → Leads hash index size path root → ⊥
none_in_back hash index size split path rest last s above e none root way =
    let half = in_back_half way split rest last s above e in none half.below half.way

-- whether the root that was found is one to which the path leads
pub leads_or_not : (hash : List ℕ) (index size : ℕ) (path : List (List ℕ)) (found root : List ℕ) (r : Bool)
    → Decides r (found ≡ root) → Leads hash index size path found
    → IsTrue r ↔ Leads hash index size path root
leads_or_not hash index size path found root r decides way = (
  λ holds. subst (λ (x : List ℕ). Leads hash index size path x) (decides.0 holds) way,
  λ other. decides.1 (one_end way root other),
)

-- a path without elements
pub empty_from : (path : List (List ℕ)) (b : Bool) → b ≡ (length path == 0) → b ≡ true → length path ≡ 0
empty_from path b is holds = eqb-true (length path) 0 (sym is ∙ holds)
