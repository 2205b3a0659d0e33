use Rattle.std.proofs.Common.{map, take}
use Rattle.it_chain.specs.Raised.{RaisedWithin}
use Rattle.it_chain.specs.inside.Asked.{SignaturesIn}
use Rattle.it_chain.proofs.Candidates.{shown}
use Rattle.it_chain.proofs.SoFar.{SoFar, least_first}
use Rattle.it_chain.proofs.counted_bodies.counted_among.Given as goal

-- what counts among the candidates so far, and how much was asked
abbrev pub invariant-loop-envelope : goal.invariant-loop-envelope
invariant-loop-envelope g l = record {
  so_far : SoFar (g.C.Checking.setting l.walk.checking.now).panel l.step
      l.signer.id.now l.signer.object.now (take l.envelope-index (map shown l.envelopes)) l.first;
  asked : RaisedWithin (least_first l.first) (SignaturesIn (take l.envelope-index (map shown l.envelopes)))
      l.fn.meter l.meter;
}
