-- The paths of entries.
use Rattle.std.proofs.Common.{◌≡◌, ℕ, zero, suc, ◌+◌, ◌-◌, ◌^◌, ◌<◌, ◌≤◌, List, [], ◌∷◌, ◌++◌}
use Rattle.std.proofs.Common.{length, take, drop, inl, inr, refl, sym, ap, subst, ◌∙◌, arith}
use Rattle.std.proofs.Common.{Some, length-append, length-drop}
use Rattle.std.specs.Prelude.{slice_get}
use Rattle.std.proofs.lemmas.Bool.{cases_lt}
use Rattle.std.proofs.lemmas.List.{take-append-drop, length-take-le}
use Rattle.it_merkle.specs.Tree.{IsRoot, leaf, node, leaf_hash, node_hash}
use Rattle.it_merkle.specs.Proof.{IsPath, alone, in_front, in_back, Leads, at_leaf, from_front, from_back}
use Rattle.it_merkle.proofs.Roots.{same_root, some_root, split_at_half, back_fits, front_fits, below_power}

path_in_front : (entries : List (List ℕ)) (e index : ℕ) → 2 ^ e < length entries → length entries ≤ 2 ^ suc e → index < 2 ^ e
    → (path : List (List ℕ)) × IsPath index (take (2 ^ e) entries) path → (path : List (List ℕ)) × IsPath index entries path
path_in_front entries e index more most below p =
    let beside = some_root (drop (2 ^ e) entries) in
    let front : length (take (2 ^ e) entries) ≡ 2 ^ e = length-take-le (2 ^ e) entries (omega arith) in
    let all = in_front (split_at_half entries e more most) (omega arith) p.1 beside.1 in
    (p.0 ++ beside.0 ∷ [], subst (λ (xs : List (List ℕ)). IsPath index xs (p.0 ++ beside.0 ∷ [])) (take-append-drop (2 ^ e) entries) all)

path_in_back : (entries : List (List ℕ)) (e index : ℕ) → 2 ^ e < length entries → length entries ≤ 2 ^ suc e → 2 ^ e ≤ index
    → (path : List (List ℕ)) × IsPath (index - 2 ^ e) (drop (2 ^ e) entries) path → (path : List (List ℕ)) × IsPath index entries path
path_in_back entries e index more most above p =
    let beside = some_root (take (2 ^ e) entries) in
    let front : length (take (2 ^ e) entries) ≡ 2 ^ e = length-take-le (2 ^ e) entries (omega arith) in
    let at : length (take (2 ^ e) entries) + (index - 2 ^ e) ≡ index = omega arith in
    let all = in_back (split_at_half entries e more most) p.1 beside.1 in (
      p.0 ++ beside.0 ∷ [],
      subst (λ (i : ℕ). IsPath i entries (p.0 ++ beside.0 ∷ [])) at
          (subst (λ (xs : List (List ℕ)). IsPath (length (take (2 ^ e) entries) + (index - 2 ^ e)) xs (p.0 ++ beside.0 ∷ [])) (take-append-drop (2 ^ e) entries) all),
    )

of_one : (entries : List (List ℕ)) (index : ℕ) → length entries ≤ 1 → index < length entries
    → (path : List (List ℕ)) × IsPath index entries path
of_one [] index h below = absurd (omega arith)
of_one (x ∷ []) zero h below = ([], alone)
of_one (x ∷ []) (suc index) h below = absurd (omega arith)
of_one (x ∷ y ∷ xs) index h below = absurd (omega arith)

path_within : (e : ℕ) (entries : List (List ℕ)) (index : ℕ) → length entries ≤ 2 ^ e → index < length entries
    → (path : List (List ℕ)) × IsPath index entries path
path_within zero entries index h below = of_one entries index h below
path_within (suc e) entries index h below =
    elim (cases_lt (2 ^ e) (length entries)) [
      | inr few ↦ path_within e entries index few below
      | inl more ↦ elim (cases_lt index (2 ^ e)) [
        | inl lt ↦ path_in_front entries e index more h lt
            (path_within e (take (2 ^ e) entries) index (front_fits entries e more)
            (let front : length (take (2 ^ e) entries) ≡ 2 ^ e = length-take-le (2 ^ e) entries (omega arith) in omega arith))
        | inr ge ↦ path_in_back entries e index more h ge
            (path_within e (drop (2 ^ e) entries) (index - 2 ^ e) (back_fits entries e h)
            (let back : length (drop (2 ^ e) entries) ≡ length entries - 2 ^ e = length-drop (2 ^ e) entries in omega arith))
      ]
    ]

-- each entry has a path
pub some_path : (entries : List (List ℕ)) (index : ℕ) → index < length entries → (path : List (List ℕ)) × IsPath index entries path
some_path entries index below =
    path_within (length entries) entries index (let h : length entries < 2 ^ length entries = below_power (length entries) in omega arith) below

-- an element of the first or of the second of two lists
pub get_front : {X : Type 0} (xs ys : List X) (i : ℕ) → i < length xs → slice_get (xs ++ ys) i ≡ slice_get xs i
get_front [] ys i h = absurd (omega arith)
get_front (x ∷ xs) ys zero h = refl
get_front (x ∷ xs) ys (suc i) h = get_front xs ys i (omega arith)

pub get_back : {X : Type 0} (xs ys : List X) (i k : ℕ) → k ≡ length xs + i → slice_get (xs ++ ys) k ≡ slice_get ys i
get_back [] ys i k e = let same : k ≡ i = omega arith in ap (slice_get ys) same
get_back (x ∷ xs) ys i zero e = absurd (omega arith)
get_back (x ∷ xs) ys i (suc k) e = get_back xs ys i k (omega arith)

-- the path of an entry leads from its hash to the root
pub path_leads : {index : ℕ} {entries path : List (List ℕ)} → IsPath index entries path → (entry root : List ℕ)
    → slice_get entries index ≡ Some entry → IsRoot entries root → Leads (leaf_hash entry) index (length entries) path root
path_leads (alone {entry = x}) entry root at tree =
    let is : x ≡ entry = cc in
    let root_is : leaf_hash x ≡ root = same_root leaf tree refl in
    let same : leaf_hash entry ≡ root = ap leaf_hash (sym is) ∙ root_is in
    subst (λ (r : List ℕ). Leads (leaf_hash entry) 0 1 [] r) same at_leaf
path_leads (in_front {index = i} {front = front} {back = back} {path = path} {beside = p} s below inner beside) entry root at tree =
    let left = some_root front in
    let root_is : node_hash left.0 p ≡ root = same_root (node s left.1 beside) tree refl in
    let way = path_leads inner entry left.0 (sym (get_front front back i below) ∙ at) left.1 in
    subst (λ (r : List ℕ). Leads (leaf_hash entry) i (length (front ++ back)) (path ++ p ∷ []) r) root_is (from_front p s below way)
path_leads (in_back {index = i} {front = front} {back = back} {path = path} {beside = p} s inner beside) entry root at tree =
    let right = some_root back in
    let root_is : node_hash p right.0 ≡ root = same_root (node s beside right.1) tree refl in
    let way = path_leads inner entry right.0 (sym (get_back front back i (length front + i) refl) ∙ at) right.1 in
    let index_is : i ≡ length front + i - length front = omega arith in
    let size_is : length back ≡ length (front ++ back) - length front = let both = length-append front back in omega arith in
    let moved : Leads (leaf_hash entry) (length front + i - length front) (length (front ++ back) - length front) path right.0 =
    subst (λ (n : ℕ). Leads (leaf_hash entry) (length front + i - length front) n path right.0) size_is
    (subst (λ (k : ℕ). Leads (leaf_hash entry) k (length back) path right.0) index_is way) in
    subst (λ (r : List ℕ). Leads (leaf_hash entry) (length front + i) (length (front ++ back)) (path ++ p ∷ []) r) root_is (from_back p s (omega arith) moved)
