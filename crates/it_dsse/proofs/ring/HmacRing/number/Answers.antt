use Rattle.it_dsse.proofs.ring.HmacRing.number.Goals as goal

pub returns-in-Some : goal.returns-in-Some
returns-in-Some c = rw (
  c.place_of_key.ensures,
  c.block.ensures,
  c.as_slice.ensures,
  ← c.in-Some.ensures,
)
