-- The root of a tree.
use Rattle.std.proofs.Common.{◌≡◌, ℕ, zero, suc, ◌-◌, ◌*◌, ◌^◌, ◌<◌, ◌≤◌, List, [], ◌∷◌, ◌++◌}
use Rattle.std.proofs.Common.{length, take, drop, inl, inr, refl, ap, subst, arith}
use Rattle.std.proofs.Common.{length-drop, lit<}
use native.Mathlib.Nat.{pow-suc}
use Rattle.std.proofs.lemmas.Bool.{cases_lt}
use Rattle.std.proofs.lemmas.List.{take-append-drop, length-take-le}
use Rattle.sha2.proofs.Facts256.{length-sha256}
use Rattle.it_merkle.specs.Tree.{IsSplit, IsRoot, empty, leaf, node, node_hash}
use Rattle.it_merkle.proofs.Splits.{more_than_one, same_halves}

pub same_root : {entries others : List (List ℕ)} {root other : List ℕ} → IsRoot entries root → IsRoot others other
    → entries ≡ others → root ≡ other
same_root empty empty e = refl
same_root empty (leaf {entry = x}) e = let long = ap length e in absurd (omega arith)
same_root empty (node {front = f} {back = b} s l r) e =
    let long = ap length e in
    let some = more_than_one _ _ s in absurd (omega arith)
same_root (leaf {entry = x}) empty e = let long = ap length e in absurd (omega arith)
same_root (leaf {entry = x}) (leaf {entry = y}) e = let same : x ≡ y = cc in cc
same_root (leaf {entry = x}) (node {front = f} {back = b} s l r) e =
    let long = ap length e in
    let some = more_than_one _ _ s in absurd (omega arith)
same_root (node {front = f} {back = b} s l r) empty e =
    let long = ap length e in
    let some = more_than_one _ _ s in absurd (omega arith)
same_root (node {front = f} {back = b} s l r) (leaf {entry = y}) e =
    let long = ap length e in
    let some = more_than_one _ _ s in absurd (omega arith)
same_root (node {front = f} {back = b} {left = x} {right = y} s l r) (node {front = f'} {back = b'} {left = x'} {right = y'} s' l' r') e =
    let parts = same_halves f f' b b' s s' e in
    let left : x ≡ x' = same_root l l' parts.0 in
    let right : y ≡ y' = same_root r r' parts.1 in
    cc

-- a root has 32 bytes
pub length-root : {entries : List (List ℕ)} {root : List ℕ} → IsRoot entries root → length root ≡ 32
length-root empty = length-sha256 _
length-root leaf = length-sha256 _
length-root (node s l r) = length-sha256 _

-- where more than half of a power of two are split
pub split_at_half : (entries : List (List ℕ)) (e : ℕ) → 2 ^ e < length entries → length entries ≤ 2 ^ suc e
    → IsSplit (length (take (2 ^ e) entries ++ drop (2 ^ e) entries)) (length (take (2 ^ e) entries))
split_at_half entries e more most =
    let power : 2 ^ suc e ≡ 2 ^ e * 2 = pow-suc 2 e in
    let whole : length (take (2 ^ e) entries ++ drop (2 ^ e) entries) ≡ length entries = ap length (take-append-drop (2 ^ e) entries) in
    let front : length (take (2 ^ e) entries) ≡ 2 ^ e = length-take-le (2 ^ e) entries (omega arith) in
    record { exponent = e; power = front; below = omega arith; largest = omega arith }

pub back_fits : (entries : List (List ℕ)) (e : ℕ) → length entries ≤ 2 ^ suc e → length (drop (2 ^ e) entries) ≤ 2 ^ e
back_fits entries e most =
    let power : 2 ^ suc e ≡ 2 ^ e * 2 = pow-suc 2 e in
    let back : length (drop (2 ^ e) entries) ≡ length entries - 2 ^ e = length-drop (2 ^ e) entries in
    omega arith

pub front_fits : (entries : List (List ℕ)) (e : ℕ) → 2 ^ e < length entries → length (take (2 ^ e) entries) ≤ 2 ^ e
front_fits entries e more =
    let front : length (take (2 ^ e) entries) ≡ 2 ^ e = length-take-le (2 ^ e) entries (omega arith) in
    omega arith

joined : (entries : List (List ℕ)) (e : ℕ) → 2 ^ e < length entries → length entries ≤ 2 ^ suc e
    → (left : List ℕ) × IsRoot (take (2 ^ e) entries) left → (right : List ℕ) × IsRoot (drop (2 ^ e) entries) right
    → (root : List ℕ) × IsRoot entries root
joined entries e more most l r = (
  node_hash l.0 r.0,
  subst (λ (xs : List (List ℕ)). IsRoot xs (node_hash l.0 r.0)) (take-append-drop (2 ^ e) entries)
      (node (split_at_half entries e more most) l.1 r.1),
)

at_most_one : (entries : List (List ℕ)) → length entries ≤ 1 → (root : List ℕ) × IsRoot entries root
at_most_one [] h = (_, empty)
at_most_one (x ∷ []) h = (_, leaf)
at_most_one (x ∷ y ∷ xs) h = absurd (omega arith)

root_within : (e : ℕ) (entries : List (List ℕ)) → length entries ≤ 2 ^ e → (root : List ℕ) × IsRoot entries root
root_within zero entries h = at_most_one entries h
root_within (suc e) entries h =
    elim (cases_lt (2 ^ e) (length entries)) [
      | inl more ↦ joined entries e more h (root_within e (take (2 ^ e) entries) (front_fits entries e more)) (root_within e (drop (2 ^ e) entries) (back_fits entries e h))
      | inr few ↦ root_within e entries few
    ]

pub below_power : (n : ℕ) → n < 2 ^ n
below_power zero = lit< tt
below_power (suc n) =
    let power : 2 ^ suc n ≡ 2 ^ n * 2 = pow-suc 2 n in
    let rest : n < 2 ^ n = below_power n in
    omega arith

pub some_root : (entries : List (List ℕ)) → (root : List ℕ) × IsRoot entries root
some_root entries = root_within (length entries) entries (let h : length entries < 2 ^ length entries = below_power (length entries) in omega arith)
