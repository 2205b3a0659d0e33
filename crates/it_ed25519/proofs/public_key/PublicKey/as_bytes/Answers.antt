use Rattle.it_ed25519.proofs.public_key.PublicKey.as_bytes.Goals as goal

pub returns-clause-key : goal.returns-clause-key
returns-clause-key c = rw (← c.self.view_is) c.self.invariant.0.key
