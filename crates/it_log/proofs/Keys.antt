-- How long the encoding of a key is.
use Rattle.std.proofs.Common.{◌≡◌, length, length-append, arith}
use Rattle.it_numbers.specs.Bytes.{big_bytes}
use Rattle.it_numbers.proofs.Big.{length-big_bytes}
use Rattle.it_p256.specs.Key.{Key, info_of}

pub length-info : (key : Key) → length (info_of key) ≡ 91
length-info key = omega (
  arith,
  length-append (big_bytes 32 key.x) (big_bytes 32 key.y),
  length-big_bytes 32 key.x,
  length-big_bytes 32 key.y,
)
