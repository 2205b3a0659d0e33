use Rattle.std.proofs.Common.{◌≡◌, ◌∷◌, codes, map, string_bytes, take}
use Rattle.it_library.proofs.handed.words_in.Given as goal

-- the program's name, and the words so far
abbrev pub invariant-loop-place : goal.invariant-loop-place
invariant-loop-place l = map string_bytes l.words.items
    ≡ codes "itv" ∷ map (λ text. text.now) (take l.place l.text-items)
