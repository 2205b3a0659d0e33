-- Known answers, which the definitions compute: the roots of no entry, of an empty one, and of it with
-- the entries 00 and 10, as Certificate Transparency's own tests have them.
use Rattle.std.proofs.Common.{◌≡◌, ℕ, List, [], ◌∷◌, refl, subst, lit<, lit≤}
use Rattle.sha2.specs.Sha256.{compress, digest_bytes, first_words, hash_after, rounds, schedule, sha256}
use Rattle.it_merkle.specs.Tree.{IsSplit, IsRoot, leaf, node, leaf_hash, node_hash}

pub root_of_none : sha256 [] ≡
    227 ∷ 176 ∷ 196 ∷ 66 ∷ 152 ∷ 252 ∷ 28 ∷ 20 ∷ 154 ∷ 251 ∷ 244 ∷ 200 ∷ 153 ∷ 111 ∷ 185 ∷ 36 ∷
    39 ∷ 174 ∷ 65 ∷ 228 ∷ 100 ∷ 155 ∷ 147 ∷ 76 ∷ 164 ∷ 149 ∷ 153 ∷ 27 ∷ 120 ∷ 82 ∷ 184 ∷ 85 ∷ []
unfolding first_words schedule rounds compress hash_after digest_bytes sha256
root_of_none = refl

pub root_of_one : leaf_hash [] ≡
    110 ∷ 52 ∷ 11 ∷ 156 ∷ 255 ∷ 179 ∷ 122 ∷ 152 ∷ 156 ∷ 165 ∷ 68 ∷ 230 ∷ 187 ∷ 120 ∷ 10 ∷ 44 ∷
    120 ∷ 144 ∷ 29 ∷ 63 ∷ 179 ∷ 55 ∷ 56 ∷ 118 ∷ 133 ∷ 17 ∷ 163 ∷ 6 ∷ 23 ∷ 175 ∷ 160 ∷ 29 ∷ []
unfolding first_words schedule rounds compress hash_after digest_bytes sha256
root_of_one = refl

hash_of_three : node_hash (node_hash (leaf_hash []) (leaf_hash (0 ∷ []))) (leaf_hash (16 ∷ [])) ≡
    174 ∷ 182 ∷ 188 ∷ 254 ∷ 39 ∷ 75 ∷ 112 ∷ 161 ∷ 79 ∷ 176 ∷ 103 ∷ 165 ∷ 229 ∷ 87 ∷ 130 ∷ 100 ∷
    219 ∷ 15 ∷ 169 ∷ 181 ∷ 26 ∷ 245 ∷ 224 ∷ 186 ∷ 21 ∷ 145 ∷ 88 ∷ 243 ∷ 41 ∷ 224 ∷ 110 ∷ 119 ∷ []
unfolding first_words schedule rounds compress hash_after digest_bytes sha256
hash_of_three = refl

two_of_three : IsSplit 3 2
two_of_three = record { exponent = 1; power = refl; below = lit< tt; largest = lit≤ tt }

one_of_two : IsSplit 2 1
one_of_two = record { exponent = 0; power = refl; below = lit< tt; largest = lit≤ tt }

pub root_of_three : IsRoot ([] ∷ (0 ∷ []) ∷ (16 ∷ []) ∷ []) (
    174 ∷ 182 ∷ 188 ∷ 254 ∷ 39 ∷ 75 ∷ 112 ∷ 161 ∷ 79 ∷ 176 ∷ 103 ∷ 165 ∷ 229 ∷ 87 ∷ 130 ∷ 100 ∷
    219 ∷ 15 ∷ 169 ∷ 181 ∷ 26 ∷ 245 ∷ 224 ∷ 186 ∷ 21 ∷ 145 ∷ 88 ∷ 243 ∷ 41 ∷ 224 ∷ 110 ∷ 119 ∷ [])
root_of_three =
    subst (λ (root : List ℕ). IsRoot ([] ∷ (0 ∷ []) ∷ (16 ∷ []) ∷ []) root) hash_of_three
    (node {front = [] ∷ (0 ∷ []) ∷ []} two_of_three
    (node {front = [] ∷ []} one_of_two leaf leaf) leaf)
