use Rattle.std.proofs.Common.{take}
use Rattle.it_prov.proofs.Possible.{AreHinted}
use Rattle.it_prov.proofs.builders_by_id.BuildersById.possible_signers.Given as goal

abbrev pub invariant-loop-signature : goal.invariant-loop-signature
invariant-loop-signature l =
    AreHinted l.self.ids (take l.signature-index l.signature-items) l.places.items
