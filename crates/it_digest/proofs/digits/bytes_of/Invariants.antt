use Rattle.std.proofs.Common.{◌≡◌, ◌*◌, length, take, drop}
use Rattle.hex.specs.Hex.{decode_pairs}
use Rattle.hex.proofs.Pairs.{prepend}
use Rattle.it_digest.proofs.digits.bytes_of.Given as goal

-- the bytes so far, and what the digits are that are left
abbrev pub invariant-loop-place : goal.invariant-loop-place
invariant-loop-place g l = record {
  room : length l.bytes ≡ g.row.N;
  read : decode_pairs 0 l.digits ≡ prepend (take l.place l.bytes)
      (decode_pairs (2 * l.place) (drop (2 * l.place) l.digits));
}
