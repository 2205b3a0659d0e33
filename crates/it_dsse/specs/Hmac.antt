-- HMAC (RFC 2104 section 2) with SHA-256, on lists of bytes.
use Rattle.std.specs.Prelude.{ℕ, List, ◌++◌, ◌-◌, length, map, nat_lt, replicate, bit_xor}
use Rattle.std.specs.Prelude.{if◌then◌else◌}
use Rattle.sha2.specs.Sha256.{sha256}

-- how many bytes a block of SHA-256 has
abbrev pub block_size : ℕ
block_size = 64

-- the key with zero bytes added at the end, up to a block
abbrev pub filled : List ℕ → List ℕ
filled key = key ++ replicate (block_size - length key) 0

-- the key as one block: a key that is longer than a block is replaced by its digest
abbrev pub block_of : List ℕ → List ℕ
block_of key = filled (if nat_lt block_size (length key) then sha256 key else key)

-- each byte, with the bits of the mask flipped
abbrev pub masked : ℕ → List ℕ → List ℕ
masked mask bytes = map (λ byte. bit_xor byte mask) bytes

-- the code of a message under a key
unfoldable pub hmac : List ℕ → List ℕ → List ℕ
hmac key message =
    sha256 (masked 0x5c (block_of key) ++ sha256 (masked 0x36 (block_of key) ++ message))
