use Rattle.std.proofs.Common.{◌≡◌, map, take}
use Rattle.it_strict.proofs.untied.texts_of.Given as goal

-- the paths that were copied so far
abbrev pub invariant-loop-path : goal.invariant-loop-path
invariant-loop-path l = l.texts.items ≡ map (λ path. path.now) (take l.path-index l.paths)
