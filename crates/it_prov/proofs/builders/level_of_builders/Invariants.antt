use Rattle.std.proofs.Common.{◌*◌, drop, length, take}
use Rattle.it_dsse.specs.Panel.{Panel}
use Rattle.it_dsse.specs.declared.envelope.Envelope.{Envelope}
use Rattle.it_prov.specs.Answered.{AreAnswers}
use Rattle.it_prov.specs.Cost.{key_count}
use Rattle.it_prov.specs.inside.Judged.{IsBuiltBy}
use Rattle.it_prov.proofs.Asking.{Leaves}
use Rattle.it_prov.proofs.Greatest.{SoFar}
use Rattle.it_prov.proofs.builders.level_of_builders.Given as goal

-- by answers for the builders, the greatest level of a builder so far that has the id and signed is
-- too low, and the rest leave each signature to be tried once for each of their keys
abbrev pub invariant-loop-index : goal.invariant-loop-index
invariant-loop-index l = (panel : Panel) (envelope : Envelope)
    → AreAnswers panel envelope l.builders l.answers
    → SoFar l.wanted (IsBuiltBy panel envelope l.id) (take l.index l.builders) l.best
    × Leaves (key_count (drop l.index l.builders) * length envelope.signatures)
    (key_count l.builders * length envelope.signatures) l.fn.meter l.meter
