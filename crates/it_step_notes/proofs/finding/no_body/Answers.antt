use Rattle.std.proofs.Common.{◌≡◌, refl, rules, true}
use Rattle.it_docs.specs.Link.{LinkOf}
use Rattle.it_chain.specs.CountedBodies.{of_layout, of_link}
use Rattle.it_step_notes.proofs.finding.no_body.Goals as goal

pub returns-in-Some : goal.returns-in-Some
returns-in-Some c =
    let reads : LinkOf c.args.payload.now c.in-Some.link = rw c.in-Some.is at c.in_ok-link.ensures in
    let same : c.in-Some.link.name ≡ c.args.step.now = search rules in
    (of_link c.in-Some.link, (reads, same))

pub returns-in-Some-2 : goal.returns-in-Some-2
returns-in-Some-2 c = record {
  link = c.in-Some.link;
  reads = rw c.in-Some.is at c.in_ok-link.ensures;
  name_is = refl;
  other = search rules;
}

pub returns-then-branch : goal.returns-then-branch
returns-then-branch c =
    let found = c.in_ok-is_layout-in-None.ensures.0 c.if-branch.true in
    (of_layout found.0, found.1)

pub returns-else-branch : goal.returns-else-branch
returns-else-branch c = record {
  no_link = rw c.in-None.is at c.in_ok-link.ensures;
  no_layout = λ layout reads. (let is : c.in_ok-is_layout-in-None.field-0 ≡ true =
      c.in_ok-is_layout-in-None.ensures.1 (layout, reads) in cc (is, c.if-branch.false));
}
