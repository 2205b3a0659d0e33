use Rattle.std.proofs.Common.{◌≡◌}
use Rattle.it_certificate_log.proofs.Baring.{others}
use Rattle.it_certificate_log.proofs.bare.part_of_others.Given as goal

abbrev pub invariant-loop-extension : goal.invariant-loop-extension
invariant-loop-extension l = l.content.items ≡ others l.extensions l.extension-index
