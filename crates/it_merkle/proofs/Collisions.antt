-- What leads to the root of some entries is one of them, or two texts collide.
use Rattle.std.proofs.Common.{◌≡◌, ◌≢◌, ℕ, ◌+◌, ◌-◌, ◌<◌, List, [], ◌∷◌, ◌++◌}
use Rattle.std.proofs.Common.{length, ◌⊎◌, inl, inr, refl, sym, ap, ◌∙◌, arith, length-append}
use Rattle.std.proofs.Common.{Bool, true, false, Some}
use Rattle.std.specs.Prelude.{slice_get, Contains, bytes_eq}
use Rattle.std.proofs.lemmas.List.Elements.{Contains-append_left, Contains-append_right}
use Rattle.std.proofs.lemmas.Slice.Eq.{bytes_eq-Decides}
use Rattle.sha2.specs.Sha256.{sha256}
use Rattle.sha2.proofs.Facts256.{length-sha256}
use Rattle.it_merkle.specs.Tree.{IsRoot, empty, leaf, node, leaf_hash, leaf_text, node_text}
use Rattle.it_merkle.specs.Proof.{Leads, at_leaf, from_front, from_back}
use Rattle.it_merkle.specs.Hashed.{Collide, hashed_for, hashed_from}
use Rattle.it_merkle.proofs.Splits.{one_split, more_than_one, same_pieces, same_ends}
use Rattle.it_merkle.proofs.Roots.{length-root}
use Rattle.it_merkle.proofs.Ways.{length-end}
use Rattle.it_merkle.proofs.Paths.{get_front, get_back}

by_test : (one other : List ℕ) (b : Bool) → b ≡ bytes_eq one other → (one ≡ other) ⊎ (one ≢ other)
by_test one other true e = inl ((bytes_eq-Decides one other).0 (sym e))
by_test one other false e =
    inr (λ same. let is : bytes_eq one other ≡ true = (bytes_eq-Decides one other).1 same in
    let no : false ≡ true = e ∙ is in cc)

-- two texts are the same or not
same_or_not : (one other : List ℕ) → (one ≡ other) ⊎ (one ≢ other)
same_or_not one other = by_test one other (bytes_eq one other) refl

head_of : (xs : List (List ℕ)) (x : List ℕ) → Contains (x ∷ xs) x
head_of xs x = (0, omega arith, refl)

tail_of : (xs : List (List ℕ)) (y x : List ℕ) → Contains xs x → Contains (y ∷ xs) x
tail_of xs y x h = Contains-append_right (y ∷ []) xs x h

-- a collision among some texts is one among more
pub within : (texts others more : List (List ℕ)) (other : List ℕ) → ((x : List ℕ) → Contains texts x → Contains more x)
    → Collide texts others → Collide more (other ∷ others)
within texts others more other holds c = record {
  one = c.one;
  other = c.other;
  is_text = holds c.one c.is_text;
  is_other = tail_of others other c.other c.is_other;
  differ = c.differ;
  same_hash = c.same_hash;
}

-- the outcome at a root: the entry is in its place, or texts collide
abbrev pub Outcome : List (List ℕ) → ℕ → List ℕ → List (List ℕ) → List (List ℕ) → Type 0
Outcome entries index entry texts others = (slice_get entries index ≡ Some entry) ⊎ Collide texts others

at_one : (x entry : List ℕ) → leaf_hash entry ≡ leaf_hash x → (leaf_text x ≡ leaf_text entry) ⊎ (leaf_text x ≢ leaf_text entry)
    → Outcome (x ∷ []) 0 entry (leaf_text x ∷ []) (leaf_text entry ∷ [])
at_one x entry same (inl is) = let entry_is : x ≡ entry = cc in inl (ap Some entry_is)
at_one x entry same (inr not) = inr (record {
  one = leaf_text x;
  other = leaf_text entry;
  is_text = head_of [] (leaf_text x);
  is_other = head_of [] (leaf_text entry);
  differ = not;
  same_hash = sym same;
})

-- the texts of two nodes with one hash
nodes : (entries : List (List ℕ)) (index : ℕ) (entry one other : List ℕ) (texts others : List (List ℕ)) → sha256 one ≡ sha256 other
    → (one ≡ other → Outcome entries index entry (one ∷ texts) (other ∷ others)) → (one ≡ other) ⊎ (one ≢ other)
    → Outcome entries index entry (one ∷ texts) (other ∷ others)
nodes entries index entry one other texts others same below (inl is) = below is
nodes entries index entry one other texts others same below (inr not) = inr (record {
  one = one;
  other = other;
  is_text = head_of texts one;
  is_other = head_of others other;
  differ = not;
  same_hash = same;
})

from_first : (front back : List (List ℕ)) (index : ℕ) (entry one other : List ℕ) (texts more others : List (List ℕ)) → index < length front
    → Outcome front index entry texts others → Outcome (front ++ back) index entry (one ∷ texts ++ more) (other ∷ others)
from_first front back index entry one other texts more others below (inl at) = inl (get_front front back index below ∙ at)
from_first front back index entry one other texts more others below (inr c) =
    inr (within texts others (one ∷ texts ++ more) other (λ x h. tail_of (texts ++ more) one x (Contains-append_left texts more x h)) c)

from_second : (front back : List (List ℕ)) (index k : ℕ) (entry one other : List ℕ) (texts more others : List (List ℕ)) → k ≡ length front + index
    → Outcome back index entry more others → Outcome (front ++ back) k entry (one ∷ texts ++ more) (other ∷ others)
from_second front back index k entry one other texts more others at (inl is) = inl (get_back front back index k at ∙ is)
from_second front back index k entry one other texts more others at (inr c) =
    inr (within more others (one ∷ texts ++ more) other (λ x h. tail_of (texts ++ more) one x (Contains-append_right texts more x h)) c)

pub found : {hash root tree_root : List ℕ} {index size : ℕ} {path entries : List (List ℕ)} → (way : Leads hash index size path root)
    → (tree : IsRoot entries tree_root) → (entry : List ℕ) → hash ≡ leaf_hash entry → size ≡ length entries → root ≡ tree_root
    → Outcome entries index entry (hashed_for tree) (hashed_from entry way)
found at_leaf empty entry is size_is root_is = absurd (omega arith)
found at_leaf (leaf {entry = x}) entry is size_is root_is =
    at_one x entry (sym is ∙ root_is) (same_or_not (leaf_text x) (leaf_text entry))
found at_leaf (node {front = f} {back = b} s l r) entry is size_is root_is =
    let more = more_than_one _ _ s in absurd (omega arith)
found (from_front beside s below way) empty entry is size_is root_is = let more = more_than_one _ _ s in absurd (omega arith)
found (from_front beside s below way) leaf entry is size_is root_is = let more = more_than_one _ _ s in absurd (omega arith)
found (from_front {index = i} {size = n} {split = k} {root = w} p s below way) (node {front = f} {back = b} {left = x} {right = y} s' l r) entry is size_is root_is =
    nodes (f ++ b) i entry (node_text x y) (node_text w p) (hashed_for l ++ hashed_for r) (hashed_from entry way) (sym root_is)
    (λ same.
    let long : length w ≡ length x = length-end way (ap length is ∙ length-sha256 _) ∙ sym (length-root l) in
    let both : x ++ y ≡ w ++ p = cc in
    let parts = same_pieces x w y p (sym long) both in
    let split_is : k ≡ length f = one_split (length (f ++ b)) k (length f) (rw size_is at s) s' in
    from_first f b i entry (node_text x y) (node_text w p) (hashed_for l) (hashed_for r) (hashed_from entry way) (omega arith)
    (found way l entry is split_is (sym parts.0)))
    (same_or_not (node_text x y) (node_text w p))
found (from_back beside s above way) empty entry is size_is root_is = let more = more_than_one _ _ s in absurd (omega arith)
found (from_back beside s above way) leaf entry is size_is root_is = let more = more_than_one _ _ s in absurd (omega arith)
found (from_back {index = i} {size = n} {split = k} {root = w} p s above way) (node {front = f} {back = b} {left = x} {right = y} s' l r) entry is size_is root_is =
    nodes (f ++ b) i entry (node_text x y) (node_text p w) (hashed_for l ++ hashed_for r) (hashed_from entry way) (sym root_is)
    (λ same.
    let long : length w ≡ length y = length-end way (ap length is ∙ length-sha256 _) ∙ sym (length-root r) in
    let both : x ++ y ≡ p ++ w = cc in
    let parts = same_ends x p y w (sym long) both in
    let split_is : k ≡ length f = one_split (length (f ++ b)) k (length f) (rw size_is at s) s' in
    let whole : length (f ++ b) ≡ length f + length b = length-append f b in
    from_second f b (i - k) i entry (node_text x y) (node_text p w) (hashed_for l) (hashed_for r) (hashed_from entry way) (omega arith)
    (found way r entry is (omega arith) (sym parts.1)))
    (same_or_not (node_text x y) (node_text p w))
