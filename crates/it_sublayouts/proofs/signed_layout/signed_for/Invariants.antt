use Rattle.std.proofs.Common.{All, Bor, ℕ, List, take}
use Rattle.it_chain.specs.declared.bundle.File.{File}
use Rattle.it_sublayouts.specs.inside.Signed.{IsSignedIn}
use Rattle.it_sublayouts.proofs.signed_layout.signed_for.Given as goal

-- no file so far holds such a sublayout
abbrev pub invariant-loop-file : goal.invariant-loop-file
invariant-loop-file g l =
    All (λ (file : Bor File). (payload : List ℕ) → ¬ IsSignedIn (g.C.Checks.panel l.checks)
    l.at.step.now l.signer.id.now l.signer.object.now file.now payload)
    (take l.file-index l.file-items)
