use Rattle.std.proofs.Common.{◌∙◌, ap}
use Rattle.sha2.specs.Sha256.{sha256}
use Rattle.it_evidence.proofs.evidence.evidence_of.Goals as goal

pub file_evidence-requires : goal.file_evidence-requires
file_evidence-requires g c = (c.args.inputs.now.provenance, c.requires.lines)

pub returns : goal.returns
returns g c =
    let grounds = c.args.grounds.now in
    record {
      documents = grounds.documents;
      evidence = grounds.evidence;
      made = c.requires.made;
      moment_is = c.in_ok-copy.ensures ∙ c.as_str.ensures;
      policy_is = c.digest.ensures ∙ ap sha256 c.as_slice.ensures;
      layout_is = c.digest-2.ensures ∙ ap sha256 c.as_slice-2.ensures;
      expires_is = c.in_ok-expires.ensures;
      steps_are = rw c.from.ensures (c.in_ok-steps.ensures grounds.documents.moment);
      files_are = rw c.from-2.ensures (c.in_ok-files.ensures.made c.args.inputs.now c.requires);
    }
