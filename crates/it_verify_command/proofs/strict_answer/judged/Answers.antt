use Rattle.it_verify_command.proofs.strict_answer.judged.Goals as goal

pub made_answer-requires-clause-noted : goal.made_answer-requires-clause-noted
made_answer-requires-clause-noted g c = rw c.requires.opened at c.noted_on-noted.ensures

pub made_answer-requires-clause-found : goal.made_answer-requires-clause-found
made_answer-requires-clause-found g c =
    let are = c.requires.found in
    let nothing = c.is_nothing.ensures.0 c.if-not-is_nothing.false in
    record {
      documents = c.args.grounds.documents;
      evidence = c.args.grounds.evidence;
      made = c.requires.grounds.made;
      of_policy = c.args.found.of_policy;
      in_policy = are.policy;
      of_layout = c.args.found.of_layout;
      in_layout = are.layout;
      are_all = rw (nothing.of_policy, nothing.of_layout) c.new.ensures.items;
      below = rw c.into_vec.ensures are.sublayouts;
    }

pub returns : goal.returns
returns g c = record {
  is_answer = c.in_ok-answer.ensures;
  stands = λ _. record {
    found = c.args.found;
    is_found = record {
      documents = c.args.grounds.documents;
      evidence = c.args.grounds.evidence;
      made = c.requires.grounds.made;
      are_found = c.requires.found;
    };
    is_nothing = c.is_nothing.ensures.0 c.if-not-is_nothing.false;
  };
}
