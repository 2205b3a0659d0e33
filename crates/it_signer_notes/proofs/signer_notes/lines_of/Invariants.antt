use Rattle.std.proofs.Common.{◌≡◌, take}
use Rattle.std.specs.List.{flat_map}
use Rattle.it_signer_notes.specs.SignerText.{signer_text}
use Rattle.it_signer_notes.specs.inside.Lent.{lent}
use Rattle.it_signer_notes.proofs.signer_notes.lines_of.Given as goal

-- the lines so far
abbrev pub invariant-loop-signer : goal.invariant-loop-signer
invariant-loop-signer l = l.text.items
    ≡ flat_map (signer_text (lent l.keys)) (lent (take l.signer-index l.signers))
