use Rattle.it_log_entry.proofs.vouching.entry_shortfall.Goals as goal

pub returns-in-Some-clause-answer : goal.returns-in-Some-clause-answer
returns-in-Some-clause-answer c = (
  c.is_of.ensures.0 c.if-not-is_of.false,
  c.counts.ensures.0 c.if-not-counts.false,
  c.is_read_kind.ensures.0 c.if-not-is_read_kind.false,
  rw (c.in-Some.is, c.as_slice-body.ensures) at c.in_ok-part.ensures,
)
