use Rattle.it_notes.proofs.notes.Notes.of.Goals as goal

pub told_keys-requires : goal.told_keys-requires
told_keys-requires g c = (c.args.inputs.now, c.requires.basis)

pub returns : goal.returns
returns g c = record {
  place = c.in_ok-place.ensures c.args.inputs.now c.requires;
  refusal = c.in_ok-told_refusal.ensures;
  keys = c.in_ok-keys.ensures c.args.inputs.now c.requires.basis;
  policy = c.in_ok-policy.ensures c.args.inputs.now c.requires.noted;
  layout = c.in_ok-layout.ensures (g.C.Checks.panel c.args.checks.now) c.args.inputs.now
      c.requires.basis;
}
