use Rattle.std.proofs.Common.{map, take}
use Rattle.it_dsse.specs.Signed.{AreThose}
use Rattle.it_prov.specs.Meets.{SignedByBuilder}
use Rattle.it_prov_notes.specs.inside.Judged.{lent_builders}
use Rattle.it_prov_notes.proofs.signers.signers_among.Given as goal

-- those of the builders so far that signed
abbrev pub invariant-loop-builder : goal.invariant-loop-builder
invariant-loop-builder g l = AreThose (SignedByBuilder (g.C.Checks.panel l.checks)
    l.envelope) (map (λ builder. builder) (take l.builder-index l.builders))
    (lent_builders l.signers.items)
