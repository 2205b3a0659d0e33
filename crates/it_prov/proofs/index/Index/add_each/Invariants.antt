use Rattle.std.proofs.Common.{take}
use Rattle.it_prov.specs.inside.Indexed.{AreAdded}
use Rattle.it_prov.proofs.index.Index.add_each.Given as goal

-- the subjects so far were put under their digests
abbrev pub invariant-loop-subject : goal.invariant-loop-subject
invariant-loop-subject l =
    AreAdded l.place (take l.subject-index l.subjects) l.fn.self l.self
