use Rattle.std.proofs.Common.{◌≡◌, Bor, List, arith, map, subst, take, take_all}
use Rattle.it_dsse.proofs.Keeping.{cut}
use Rattle.it_chain.specs.Signers.{entry_of}
use Rattle.it_chain.specs.declared.bundle.File.{File}
use Rattle.it_step_evidence.specs.inside.Counting.{ArePlaces}
use Rattle.it_step_evidence.proofs.ClaimedFor.{lent}
use Rattle.it_step_evidence.proofs.PlacesMore.{no_places, places_more}
use Rattle.it_step_evidence.proofs.places.signed_places.Goals as goal

pub loop-file-init : goal.loop-file-init
loop-file-init g c =
    rw c.new-places.ensures
    (no_places (g.C.Checks.panel c.args.checks.now) c.args.step.now (entry_of c.args.signer.now))

pub loop-file-preserved : goal.loop-file-preserved
loop-file-preserved g c =
    let panel = g.C.Checks.panel c.args.checks.now in
    let files = c.args.files.now in
    let i = c.loop-file.file-index in
    let file = c.file-item.result in
    rw (
      c.in_ok-keep_place.ensures,
      c.name.ensures,
      cut lent files i file c.loop-file-test.true c.file-item.is,
    )
    (places_more panel c.args.step.now (entry_of c.args.signer.now) (map lent (take i files))
    (lent file) c.loop-file.places c.loop-file.invariant c.in_ok-place.place
    c.in_ok-place.ensures)

pub returns : goal.returns
returns g c =
    let files = c.args.files.now in
    let all : take c.loop-file.file-index files ≡ files =
    take_all c.loop-file.file-index files (omega arith) in
    subst (λ (some : List (Bor File)). ArePlaces (g.C.Checks.panel c.args.checks.now)
    c.args.step.now (map lent some) (entry_of c.args.signer.now) c.loop-file.places) all
    c.loop-file.invariant
