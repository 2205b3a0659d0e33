use Rattle.it_strict.proofs.found.found_in_policy.Goals as goal

pub returns : goal.returns
returns c = record {
  members = c.in_ok-members.members.items;
  nulls = c.in_ok-nulls.nulls.items;
  always = c.in_ok-found.found.items;
  unused = c.in_ok-unused.unused.items;
  are_members = c.in_ok-members.ensures;
  are_nulls = c.in_ok-nulls.ensures;
  are_always = rw (c.as_slice-members.ensures.value, c.as_slice-nulls.ensures.value) at
      c.in_ok-found.ensures;
  are_unused = c.in_ok-unused.ensures;
  are_all = c.in_ok-append.ensures.items;
}
