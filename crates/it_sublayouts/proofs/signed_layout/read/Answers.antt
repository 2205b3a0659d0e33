use Rattle.it_sublayouts.proofs.signed_layout.read.Goals as goal

pub unreachable-requires : goal.unreachable-requires
unreachable-requires c =
    (rw c.in_default.is at c.in_ok-layout.ensures) c.requires.0 c.requires.1
