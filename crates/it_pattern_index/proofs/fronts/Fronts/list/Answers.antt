use Rattle.std.proofs.Common.{inl, inr, refl}
use Rattle.it_glob.specs.Pattern.{front_of, items_of}
use Rattle.it_pattern_index.proofs.fronts.Fronts.list.Goals as goal

pub returns-clause-listed : goal.returns-clause-listed
returns-clause-listed c = record {
  under = rw (← c.literal_front.ensures.value, ← c.as_bytes-front.ensures.value)
      ((c.in_ok-put.ensures c.as_bytes-front.result.now c.args.place).1 (inr (refl, refl)));
  measured = c.in_ok-measure.ensures.measured;
}

pub returns-clause-kept : goal.returns-clause-kept
returns-clause-kept c = λ text p listed. record {
  under = (c.in_ok-put.ensures (front_of (items_of text)) p).1 (inl listed.under);
  measured = c.in_ok-measure.ensures.kept text listed.measured;
}
