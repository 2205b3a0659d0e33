use Rattle.std.proofs.Common.{◌++◌, take, arith, length-append, length-take}
use Rattle.std.proofs.KnownBytes.{Consumes-trans}
use Rattle.it_digest.proofs.reader.digest_of_rest.Goals as goal

pub returns-then-count-room-clause-too_large : goal.returns-then-count-room-clause-too_large
returns-then-count-room-clause-too_large g c _ =
    let came = c.loop-hasher.invariant in
    let block = take c.in_ok-count.count c.read.new.buf in
    let fits = c.in_ok-count.ensures.bound in
    record {
      bytes = came.0 ++ block;
      given = Consumes-trans _ _ _ _ _ came.3 c.in_ok-count.ensures.bytes.0;
      beyond_limit = simp (length-append, length-take) (omega arith);
    }

pub loop-hasher-preserved : goal.loop-hasher-preserved
loop-hasher-preserved g c =
    let came = c.loop-hasher.invariant in
    let block = take c.in_ok-count.count c.read.new.buf in
    let fits = c.in_ok-count.ensures.bound in (
      came.0 ++ block,
      simp (length-append, length-take) (omega arith),
      c.update.ensures came.0 came.2,
      Consumes-trans _ _ _ _ _ came.3 c.in_ok-count.ensures.bytes.0,
    )
