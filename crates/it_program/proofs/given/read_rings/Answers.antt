use Rattle.std.proofs.Common.{◌≡◌, ◌∙◌, ◌+◌, ◌++◌, [], ◌∷◌, take, ap, sym}
use Rattle.std.proofs.lemmas.List.{take_more}
use Rattle.it_disk.specs.Reading.{HoldsRing}
use Rattle.it_file_commands.proofs.Pairs.{with_last}
use Rattle.it_program.proofs.given.read_rings.Goals as goal

pub loop-path-preserved : goal.loop-path-preserved
loop-path-preserved g c =
    let paths = c.args.paths.now in
    let i = c.loop-path.path-index in
    let held = rw c.as_str.ensures at c.in_ok-read_ring.ensures.ok in
    let more : take (i + 1) paths ≡ take i paths ++ c.path-item.result ∷ [] =
    take_more paths i c.path-item.result c.loop-path-test.true ∙ ap (λ x. take i paths ++ x ∷ [])
    (sym c.path-item.is) in
    rw (c.in_ok-push.ensures.items, more)
    (with_last (HoldsRing (g.R.Disk.holdings c.args.rt.now)) (take i paths) c.loop-path.rings.items
    c.path-item.result c.in_ok-read_ring.field-0 c.loop-path.invariant held)
