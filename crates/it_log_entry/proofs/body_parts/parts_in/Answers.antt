use Rattle.std.proofs.Common.{codes, sym}
use Rattle.it_borrowed.specs.Tree.{as_data}
use Rattle.it_log_entry.specs.BodyParts.{ArePartsOf, HasParts}
use Rattle.it_log_entry.specs.inside.Said.{said_by}
use Rattle.it_log_entry.proofs.Finding.{found_as}
use Rattle.it_log_entry.proofs.Parts.{part_from, part_of}
use Rattle.it_log_entry.proofs.body_parts.parts_in.Goals as goal

pub returns : goal.returns
returns c =
    let kind = c.args.kind.now in
    let document = as_data c.args.document.now in
    let spec = as_data c.in_ok-member.field-0.now in
    let is = rw c.in_ok-member.was at c.member.ensures in
    found_as said_by (ArePartsOf kind spec) (HasParts kind document)
    (λ said are. record {
      kind_is = rw c.as_str.ensures at (c.has_text.ensures.0 c.if-not-has_text.false);
      version_is = rw c.as_str-2.ensures at (c.has_text-2.ensures.0 c.if-not-has_text-2.false);
      parts_are = part_from (ArePartsOf kind) (codes "spec") document spec said (sym is) are;
    })
    (λ said has. part_of (ArePartsOf kind) (codes "spec") document spec said (sym is) has.parts_are)
    c.parts_of.result c.parts_of.ensures
