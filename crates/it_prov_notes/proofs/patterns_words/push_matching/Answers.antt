use Rattle.std.proofs.Common.{append_assoc}
use Rattle.it_prov_notes.proofs.patterns_words.push_matching.Goals as goal

pub returns : goal.returns
returns c = rw append_assoc at (rw append_assoc at (rw (
  c.others_words.ensures,
  c.in_ok-push_each.ensures,
  c.in_ok-push_words.ensures,
) at c.push_words-2.ensures))
