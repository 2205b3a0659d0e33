use Rattle.it_signer_notes.proofs.Texts.{more}
use Rattle.it_signer_notes.proofs.signer_line.push_listed.Goals as goal

pub returns : goal.returns
returns c =
    more _ _ _ _ _ c.in_ok-extend_from_slice.ensures.items
    (rw (c.as_bytes.ensures.value, c.as_str.ensures) at c.in_ok-push_name.ensures)
