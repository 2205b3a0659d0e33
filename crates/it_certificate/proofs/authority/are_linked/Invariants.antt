use Rattle.std.proofs.Common.{◌↔◌, ◌-◌, map, drop}
use Rattle.it_certificate.specs.Authority.{AreLinked}
use Rattle.it_certificate.specs.Certificate.{facts_of}
use Rattle.it_certificate.proofs.authority.are_linked.Given as goal

abbrev pub invariant-loop-place : goal.invariant-loop-place
invariant-loop-place l =
    AreLinked (map facts_of l.certificates) ↔ AreLinked (map facts_of (drop (l.place - 1) l.certificates))
