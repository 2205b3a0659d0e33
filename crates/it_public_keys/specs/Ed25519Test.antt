-- Whether an Ed25519 signature is valid, as a test (RFC 8032, section 5.1.7).
use Rattle.std.specs.Prelude.{ℕ, List, Bool, false, ◌&&◌, nat_eq, nat_lt, length, take, drop}
use Rattle.std.specs.Prelude.{option_map, unwrap_or}
use Rattle.std.specs.Str.{bytes_eq}
use Rattle.it_numbers.specs.Bytes.{little}
use Rattle.it_ed_scalar.specs.Order.{order}
use Rattle.it_ed_point.specs.Encoding.{decoded, encoding_of}
use Rattle.it_ed_point.specs.declared.point.Point.{Point}
use Rattle.it_ed25519.specs.Signature.{challenge_of, combination_of}

-- the signature is that of the message under the key of this point and these bytes
unfoldable pub is_signature_under : List ℕ → List ℕ → List ℕ → Point → Bool
is_signature_under key message signature point =
    nat_eq (length signature) 64 && (nat_lt (little (drop 32 signature)) order
    && bytes_eq (encoding_of (combination_of point (little (drop 32 signature))
    (challenge_of (take 32 signature) key message))) (take 32 signature))

-- and the bytes encode such a point
abbrev pub is_ed25519_signature : List ℕ → List ℕ → List ℕ → Bool
is_ed25519_signature key message signature =
    unwrap_or (option_map (is_signature_under key message signature) (decoded key)) false
