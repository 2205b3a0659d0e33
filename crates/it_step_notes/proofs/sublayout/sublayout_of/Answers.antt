use Rattle.std.proofs.Common.{◌+◌, List, All, ap, arith, length, subst, sym, take}
use Rattle.std.proofs.lemmas.List.{take_all}
use Rattle.std.proofs.lemmas.List.Elements.{All-contains, All-more}
use Rattle.it_chain.specs.Contents.{files_of}
use Rattle.it_chain.specs.declared.bundle.File.{File}
use Rattle.it_step_notes.specs.Sublayout.{IsSublayoutIn}
use Rattle.it_step_notes.specs.declared.signed_layout.SignedLayout.{SignedLayout}
use Rattle.it_step_notes.proofs.sublayout.sublayout_of.Goals as goal

pub loop-file-preserved : goal.loop-file-preserved
loop-file-preserved g c =
    let panel = g.C.Checks.panel c.args.checks.now in
    let at = c.args.at.now in
    let Passed = λ (file : File). (below : SignedLayout)
    → ¬ IsSublayoutIn panel at.layout.now at.step.now c.args.id.now file below in
    let files = c.files-file-items.result.now in
    let i = c.loop-file.file-index in
    let none : Passed c.file-item.result = rw c.in_default.is at c.in_ok-found.ensures in
    subst (λ (all : List File). All Passed (take (i + 1) all)) c.files-file-items.ensures
    (All-more Passed files i c.file-item.result c.loop-file-test.true
    (subst (λ (all : List File). All Passed (take i all)) (sym c.files-file-items.ensures)
    c.loop-file.invariant) (subst Passed c.file-item.is none))

pub returns : goal.returns
returns g c = λ below of.
    let panel = g.C.Checks.panel c.args.checks.now in
    let at = c.args.at.now in
    let Passed = λ (file : File). (below : SignedLayout)
    → ¬ IsSublayoutIn panel at.layout.now at.step.now c.args.id.now file below in
    let files = files_of at.bundle.now in
    let long = ap (λ (all : List File). length all) c.files-file-items.ensures in
    let all : All Passed files = subst (All Passed)
    (take_all c.loop-file.file-index files (omega (arith, long, c.loop-file-test.false)))
    c.loop-file.invariant in
    All-contains Passed files of.file all of.stands below of.is_in
