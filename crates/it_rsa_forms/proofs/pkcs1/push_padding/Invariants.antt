use Rattle.std.proofs.Common.{◌≡◌, ◌++◌}
use Rattle.std.specs.Prelude.{replicate}
use Rattle.it_rsa_forms.proofs.pkcs1.push_padding.Given as goal

-- what was there, and the bytes so far
abbrev pub invariant-loop-place : goal.invariant-loop-place
invariant-loop-place l = l.em.items ≡ l.initial.em.items ++ replicate l.place 255
