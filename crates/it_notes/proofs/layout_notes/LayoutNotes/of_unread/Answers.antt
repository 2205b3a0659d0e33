use Rattle.std.proofs.Common.{inl}
use Rattle.it_notes.proofs.layout_notes.LayoutNotes.of_unread.Goals as goal

pub returns : goal.returns
returns c = λ inputs is_envelope. record {
  envelope = c.args.envelope.now;
  is_envelope = is_envelope;
  deliver = inl c.new.ensures.items;
  members = rw (← c.as_slice.ensures) c.in_ok-members_of.ensures;
  rules = inl c.new-2.ensures.items;
}
