use Rattle.std.proofs.Common.{Bor, List, [], ℕ, get_or, subst}
use Rattle.std.proofs.lemmas.List.{get_or_default, take_all}
use Rattle.it_prov.specs.Fits.{patterns_of}
use Rattle.it_unused.proofs.Using.{AreUsed, used_put, used_skip}
use Rattle.it_unused.proofs.used.used_places.Goals as goal
use Rattle.it_unused.proofs.used.used_places.Goals.{in-Some+in_ok-insert, in_default}

pub loop-path-preserved : goal.loop-path-preserved
loop-path-preserved c =
    let paths = c.args.paths.now in
    let i = c.loop-path.path-index in
    let none : Bor (List ℕ) = record { ref_ptr = (0, 0); now = [] } in
    let path = get_or paths i none in
    let patterns = patterns_of c.args.expectations.now in
    let is = get_or_default paths i none path c.loop-path-test.true in
    elim c.match-first_match.branch [
      | in-Some+in_ok-insert w ↦ rw w.used-is (used_put patterns paths i c.loop-path-test.true
          path is c.loop-path.used c.loop-path.invariant w.in-Some.place
          (rw c.in_ok-patterns.ensures at w.in-Some.ensures) w.insert.new.self
          w.in_ok-insert.ensures.updates.0)
      | in_default w ↦ rw w.used-is (used_skip patterns paths i c.loop-path-test.true path is
          c.loop-path.used c.loop-path.invariant
          (rw c.in_ok-patterns.ensures at w.in_default.ensures))
    ]

pub returns : goal.returns
returns c = subst (λ paths. AreUsed (patterns_of c.args.expectations.now) paths c.loop-path.used)
    (take_all c.loop-path.path-index c.args.paths.now c.loop-path-test.false) c.loop-path.invariant
