use Rattle.it_check.proofs.check_output.check_documents.Goals as goal

pub returns : goal.returns
returns c = record {
  policy_reading = c.in_ok-policy.policy;
  layout_reading = c.in_ok-layout.layout;
  policy_is = c.in_ok-policy.ensures;
  layout_is = c.in_ok-layout.ensures;
  tells = c.in_ok-output.ensures;
}
