-- The bytes that came so far are in the hasher, and they and the room that is left make the limit.
use Rattle.std.proofs.Common.{◌≡◌, ℕ, ◌+◌, List, length}
use Rattle.std.specs.Io.KnownBytes.{Consumes}
use Rattle.it_digest.proofs.reader.digest_of_rest.Given as goal

abbrev pub invariant-loop-hasher : goal.invariant-loop-hasher
invariant-loop-hasher g l = (bytes : List ℕ)
    × (length bytes + l.room ≡ l.limit)
    × g.D.Digest.holds l.hasher bytes
    × Consumes (g.R.Read.remaining l.initial.reader) (g.R.Read.remaining l.reader) bytes

abbrev pub decreases-loop-hasher : goal.decreases-loop-hasher
decreases-loop-hasher g l = l.room
