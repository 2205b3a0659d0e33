use Rattle.std.proofs.Common.{◌≡◌, drop, map}
use Rattle.it_dsse.specs.Panel.{key_from}
use Rattle.it_dsse.specs.Ring.{ring_check}
use Rattle.it_public_keys.proofs.rings.key_in.Given as goal

-- the key is that of the rings that are left
abbrev pub invariant-loop-place : goal.invariant-loop-place
invariant-loop-place l =
    key_from l.place (map ring_check (drop l.place l.rings)) l.id l.object
    ≡ key_from 0 (map ring_check l.rings) l.id l.object
