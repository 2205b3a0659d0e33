use Rattle.std.proofs.Common.{◌-◌}
use Rattle.it_root_notes.specs.AuthorityMisses.{Names}
use Rattle.it_root_notes.proofs.Standing.{Tell}
use Rattle.it_root_notes.proofs.chain.first_other_issuer.Given as goal

abbrev pub invariant-loop-place : goal.invariant-loop-place
invariant-loop-place l = Tell Names (l.place - 1) l.certificates
