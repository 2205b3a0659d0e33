use Rattle.it_ed25519.proofs.Keys.{combination_by}
use Rattle.it_ed25519.proofs.public_key.PublicKey.first_half.Goals as goal

pub returns : goal.returns
returns c =
    rw (← c.self.view_is)
    (λ a d. combination_by a c.self.invariant.0.key.point _ _ _ _ c.args.s.now c.args.k.now c.self.inside.bytes _
    c.self.invariant.0.key.decodes c.self.invariant.0.is d
    c.multiple_of_base.ensures c.multiple-multiple.ensures c.add.ensures c.encode.ensures)
