use Rattle.std.proofs.Common.{◌≡◌, ◌&&◌, drop}
use Rattle.std.specs.Str.{bytes_eq}
use Rattle.it_dsse.proofs.code_check.is_same_code.Given as goal

-- the codes are the same where they were so far, and are in what is left
abbrev pub invariant-loop-place : goal.invariant-loop-place
invariant-loop-place l =
    (l.is_same && bytes_eq (drop l.place l.code) (drop l.place l.sig)) ≡ bytes_eq l.code l.sig
