use Rattle.std.proofs.Common.{◌+◌, Contains, inl, inr, sym, take}
use Rattle.it_pattern_index.specs.inside.Listed.{texts_of}
use Rattle.it_pattern_index.proofs.Narrowing.{narrowed_then, next_or_before}
use Rattle.it_pattern_index.proofs.earlier.earlier_among.Goals as goal

pub loop-place-preserved : goal.loop-place-preserved
loop-place-preserved c =
    let places = c.args.places.now in
    let i = c.loop-place.place-index in
    narrowed_then (texts_of c.args.patterns.now) c.args.path.now (Contains (take i places)) _
    (Contains (take (i + 1) places)) c.args.found c.loop-place.first c.earlier-first.result
    c.loop-place.invariant c.earlier-first.ensures
    (λ place asked matches. elim (next_or_before places i 0 place c.loop-place-test.true asked) [
      | inl before ↦ inl before
      | inr here ↦ inr (sym here)
    ])
