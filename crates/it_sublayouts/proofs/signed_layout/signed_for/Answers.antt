use Rattle.std.proofs.Common.{All, Bor, ℕ, List, arith, subst, take_all}
use Rattle.std.proofs.lemmas.List.Elements.{All-more}
use Rattle.it_chain.specs.declared.bundle.File.{File}
use Rattle.it_sublayouts.specs.inside.Signed.{IsSignedIn}
use Rattle.it_sublayouts.proofs.Searching.{counts_for, none_counts, stands_in}
use Rattle.it_sublayouts.proofs.signed_layout.signed_for.Goals as goal

pub returns-in-Some : goal.returns-in-Some
returns-in-Some g c =
    let panel = g.C.Checks.panel c.args.checks.now in
    let at = c.args.at.now in
    let signer = c.args.signer.now in
    let file = c.file-item.result in
    counts_for panel at.level.now.layout.now at.level.now.links.now at.step.now signer.id.now
    signer.object.now c.requires.step.is_step c.requires.signer.listed c.requires.signer.known
    file.now
    (stands_in at.level.now.links.now at.files.now c.requires.step.files c.loop-file.file-index file
    c.loop-file-test.true c.file-item.is)
    c.in-Some.found.now (rw c.in-Some.is at c.in_ok-found.ensures)

pub loop-file-preserved : goal.loop-file-preserved
loop-file-preserved g c =
    let panel = g.C.Checks.panel c.args.checks.now in
    let signer = c.args.signer.now in
    let Passed = λ (file : Bor File). (payload : List ℕ)
    → ¬ IsSignedIn panel c.args.at.now.step.now signer.id.now signer.object.now file.now payload in
    let none : Passed c.file-item.result = rw c.in_default.is at c.in_ok-found.ensures in
    All-more Passed c.args.at.now.files.now c.loop-file.file-index c.file-item.result
    c.loop-file-test.true c.loop-file.invariant (subst Passed c.file-item.is none)

pub returns : goal.returns
returns g c =
    let panel = g.C.Checks.panel c.args.checks.now in
    let at = c.args.at.now in
    let signer = c.args.signer.now in
    let Passed = λ (file : Bor File). (payload : List ℕ)
    → ¬ IsSignedIn panel at.step.now signer.id.now signer.object.now file.now payload in
    none_counts panel at.level.now.layout.now at.level.now.links.now at.step.now signer.id.now
    signer.object.now c.requires.step.is_step c.requires.signer.listed c.requires.signer.known
    at.files.now c.requires.step.files
    (subst (All Passed) (take_all c.loop-file.file-index at.files.now (omega arith))
    c.loop-file.invariant)
