use Rattle.std.proofs.Common.{◌∙◌, sym}
use Rattle.it_step_notes.proofs.file_notes.file_note.Goals as goal

pub returns-then-is_claimed : goal.returns-then-is_claimed
returns-then-is_claimed g c = record {
  file = c.args.file.now;
  stands = c.requires;
  name_is = sym (c.in_ok-copy.ensures ∙ c.name-name.ensures);
  claimed = rw (c.as_str.ensures, c.name-name.ensures) at
      (c.is_claimed.ensures.0 c.if-is_claimed.true);
  is_so = c.in_ok-finding.ensures;
}
