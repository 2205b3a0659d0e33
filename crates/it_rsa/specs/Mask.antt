-- The mask generation function MGF1 with SHA-256 (RFC 8017, section B.2.1), and how a mask is
-- applied.
use Rattle.std.specs.Prelude.{ℕ, zero, suc, ◌+◌, ◌/◌, List, [], ◌∷◌, ◌++◌, take, bit_xor}
use Rattle.sha2.specs.Sha256.{sha256}
use Rattle.it_numbers.specs.Bytes.{big_bytes}

-- the blocks of the mask: digests of the seed and a counter of four bytes
unfoldable pub mask_blocks : List ℕ → ℕ → List ℕ
mask_blocks seed zero = []
mask_blocks seed (suc n) = mask_blocks seed n ++ sha256 (seed ++ big_bytes 4 n)

-- the mask of a length
unfoldable pub mgf1 : List ℕ → ℕ → List ℕ
mgf1 seed n = take n (mask_blocks seed ((n + 31) / 32))

-- exclusive or, byte by byte
unfoldable pub xored : List ℕ → List ℕ → List ℕ
xored [] ys = []
xored (x ∷ xs) [] = []
xored (x ∷ xs) (y ∷ ys) = bit_xor x y ∷ xored xs ys
