use Rattle.std.proofs.Common.{Contains, List, subst}
use Rattle.it_base.proofs.Elements.{contains_at}
use Rattle.it_chain.specs.declared.bundle.File.{File}
use Rattle.it_rule_notes.specs.inside.CountingLink.{IsHeldLink}
use Rattle.it_rule_notes.proofs.HeldLinks.{holds_link}
use Rattle.it_rule_notes.proofs.disagree_note.other_link.Goals as goal

pub returns-in-Some-2 : goal.returns-in-Some-2
returns-in-Some-2 g c =
    let panel = g.C.Checks.panel c.args.checks.now in
    let level = c.args.level.now in
    let files = c.files-file-items.result.now in
    let stands = subst (λ (all : List File). Contains all c.file-item.result)
    c.files-file-items.ensures
    (contains_at files c.loop-file.file-index c.file-item.result c.loop-file-test.true c.file-item.is) in
    let is : IsHeldLink panel c.args.step.now.name c.in_ok-asked.asked.items c.file-item.result
    c.in-Some.held = rw (c.as_str-name.ensures, c.as_slice.ensures.value) at
    (rw c.in-Some.is at c.in_ok-held.ensures) in
    record {
      holds = holds_link panel level.moment level.layout.now level.links.now c.args.step.now
          c.in_ok-asked.asked.items c.in_ok-asked.ensures c.file-item.result c.in-Some.held stands
          is;
      differs = rw c.in-Some-2.is at c.in_ok-difference.ensures;
    }
