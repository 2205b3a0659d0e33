use Rattle.it_prov_notes.proofs.line.line_misses.Goals as goal

pub returns-in-Some : goal.returns-in-Some
returns-in-Some g c =
    c.envelope_misses.ensures c.args.line.now.bytes.now (rw c.in-Some.is at c.requires)

pub returns-in_ok-shape_of-in-None : goal.returns-in_ok-shape_of-in-None
returns-in_ok-shape_of-in-None g c = (
  rw c.in-None.is at c.requires,
  c.in_ok-shape_of-in-None.ensures,
)
