use Rattle.std.proofs.Common.{inr}
use Rattle.it_notes.proofs.layout_notes.LayoutNotes.of.Goals as goal

pub returns : goal.returns
returns c = λ panel inputs known.
    let signed = c.args.known.now.top.signed in
    let top = known.top.is_layout in
    record {
      envelope = top.envelope;
      is_envelope = top.is_envelope;
      deliver = inr (
        c.args.known.now.policy,
        signed.layout,
        known.policy,
        top.reads,
        rw c.as_slice.ensures at c.in_ok-rule_list_notes.ensures,
      );
      members = rw (← top.payload_is, ← c.as_slice-2.ensures) c.in_ok-members_of.ensures;
      rules = inr (signed.layout, top.reads, c.in_ok-layout_rule_notes.ensures);
    }
