use Rattle.std.proofs.Common.{◌≡◌, take}
use Rattle.it_nonce_uses.specs.LayoutUses.{folder_below}
use Rattle.it_nonce_uses.proofs.sublayout_uses.bundle_below.Given as goal

-- the folder at the places so far
abbrev pub invariant-loop-step : goal.invariant-loop-step
invariant-loop-step l = l.bundle ≡ folder_below (take l.step-index l.at) l.links
