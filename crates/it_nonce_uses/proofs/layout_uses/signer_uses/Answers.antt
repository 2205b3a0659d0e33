use Rattle.std.proofs.Common.{◌≡◌, ◌∙◌, arith, subst, take, take_all}
use Rattle.it_chain.specs.Contents.{files_of}
use Rattle.it_findings.specs.Joined.{JoinedEach}
use Rattle.it_findings.proofs.Joining.{joined_more}
use Rattle.it_nonce_uses.specs.FileUses.{FileUses}
use Rattle.it_nonce_uses.proofs.layout_uses.signer_uses.Goals as goal

pub loop-file-preserved : goal.loop-file-preserved
loop-file-preserved g c =
    rw c.in_ok-append.ensures.items
    (joined_more (λ place file here. FileUses (g.C.Checks.panel c.args.checks.now)
    c.as_str-step.result.now c.in_ok-as_functionary.field-0 c.args.listed.now.object.now file here)
    c.files-file-items.result.now c.loop-file.file-index c.file-item.result c.loop-file.uses.items
    c.in_ok-here.here.items c.loop-file-test.true c.file-item.is c.loop-file.invariant
    c.in_ok-here.ensures)

pub returns : goal.returns
returns g c =
    let items = c.files-file-items.result.now in
    let all : take c.loop-file.file-index items ≡ files_of c.args.level.now.links.now =
    take_all c.loop-file.file-index items (omega arith) ∙ c.files-file-items.ensures in
    rw (c.in_ok-as_functionary.ensures, c.as_str-step.ensures) at
    (subst (λ files. JoinedEach (FileUses (g.C.Checks.panel c.args.checks.now)
    c.as_str-step.result.now c.in_ok-as_functionary.field-0 c.args.listed.now.object.now) files
    c.loop-file.uses.items) all c.loop-file.invariant)
