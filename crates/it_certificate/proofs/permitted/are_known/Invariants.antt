use Rattle.std.proofs.Common.{◌≡◌, map, drop}
use Rattle.std.specs.List.{list_all}
use Rattle.it_certificate.specs.Extension.{stated_of}
use Rattle.it_certificate.specs.Permitted.{is_known_if_critical}
use Rattle.it_certificate.proofs.permitted.are_known.Given as goal

abbrev pub invariant-loop-extension : goal.invariant-loop-extension
invariant-loop-extension l = list_all is_known_if_critical (map stated_of l.extensions)
    ≡ list_all is_known_if_critical (map stated_of (drop l.extension-index l.extensions))
