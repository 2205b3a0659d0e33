use Rattle.it_notes.proofs.found_in_documents.found_in_documents.Goals as goal

pub found_below-requires-clause-holds : goal.found_below-requires-clause-holds
found_below-requires-clause-holds g c =
    (c.args.grounds.now.evidence.steps, c.requires.made.is_evidence.steps)

pub returns : goal.returns
returns g c = record {
  documents = c.args.grounds.now.documents;
  evidence = c.args.grounds.now.evidence;
  made = c.requires.made;
  of_policy = c.in_ok-found.found.items;
  in_policy = rw (← c.args.opened.now.of_inputs) c.in_ok-found.ensures;
  of_layout = c.in_ok-of_layout.of_layout.items;
  in_layout = c.in_ok-of_layout.ensures;
  are_all = c.in_ok-append.ensures.items;
  below = c.in_ok-found_below.ensures;
}
