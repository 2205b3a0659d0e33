use Rattle.std.proofs.Common.{bytes_eq, refl, subst, string_bytes, sym}
use Rattle.it_chain.specs.inside.Places.{places_under}
use Rattle.it_chain.specs.ClaimedFiles.{IsClaimed}
use Rattle.it_chain.proofs.ClaimedFiles.{claimed_or, passed_by}
use Rattle.it_chain.proofs.claimed_files.Claims.of.Goals as goal
use Rattle.it_chain.proofs.claimed_files.Claims.of.Goals.{in-Some+in_ok-from_str+in_ok-add}
use Rattle.it_chain.proofs.claimed_files.Claims.of.Goals.{in_default}

pub loop-place-preserved : goal.loop-place-preserved
loop-place-preserved c = λ step.
    let files = c.args.files.now in
    let i = c.loop-place.place in
    let file = c.index-files-place.result in
    let places = places_under c.loop-place.by_step step in
    let before = c.loop-place.invariant step in
    elim c.match-claimed_step.branch [
      | in-Some+in_ok-from_str+in_ok-add w ↦
          let name = string_bytes w.in_ok-from_str.field-0 in
          let claimed = subst (λ s. IsClaimed s file.name) (sym w.in_ok-from_str.ensures.ok)
          (subst (IsClaimed w.in-Some.step.now) c.name.ensures w.in-Some.ensures) in
          rw w.by_step-is
          (claimed_or files i file c.loop-place-test.true c.index-files-place.is name step places _
          (bytes_eq step name) claimed refl (w.in_ok-add.ensures step) before)
      | in_default w ↦
          let none = rw (w.in_default.is, c.name.ensures) at c.claimed_step.ensures in
          rw w.by_step-is (passed_by files i file c.loop-place-test.true c.index-files-place.is step
          places before (none step))
    ]
