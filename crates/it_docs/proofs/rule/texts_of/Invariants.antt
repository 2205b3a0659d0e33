use Rattle.std.proofs.Common.{◌≡◌, map, take, string_bytes}
use Rattle.it_docs.proofs.rule.texts_of.Given as goal

-- the texts that were copied so far
abbrev pub invariant-loop-string : goal.invariant-loop-string
invariant-loop-string l = l.texts.items ≡ map string_bytes (take l.string-index l.strings)
