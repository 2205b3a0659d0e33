use Rattle.std.proofs.Common.{◌∙◌, ◌++◌, ap, append_assoc, codes, refl}
use Rattle.it_report.specs.Name.{cut_form}
use Rattle.it_check.proofs.Appended.{appended}
use Rattle.it_notes.specs.LayoutEnvelope.{expected_form, type_line}
use Rattle.it_notes.proofs.layout_envelope.push_type.Goals as goal

pub returns : goal.returns
returns c =
    let front = codes "layout: its payload type is " in
    let found = cut_form c.args.found.now in
    appended c.push_expected.result c.args.text.now.items c.push_cut_name.new.text.items
    c.push_expected.new.text.items (front ++ found) expected_form (type_line c.args.found.now)
    ((rw (c.as_bytes.ensures.value, c.as_str.ensures) at c.in_ok-push_cut_name.ensures)
    ∙ ap (λ before. before ++ found) c.in_ok-extend_from_slice.ensures.items
    ∙ append_assoc c.args.text.now.items front found) refl c.push_expected.ensures
