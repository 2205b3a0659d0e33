use Rattle.it_check.proofs.member_pointers.push_key_at.Goals as goal

pub returns : goal.returns
returns c = rw (c.list.ensures, c.id.ensures) at c.push_key.ensures
