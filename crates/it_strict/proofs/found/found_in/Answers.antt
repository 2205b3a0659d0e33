use Rattle.it_verify.proofs.NamesApart.{links_differ}
use Rattle.it_strict.proofs.found.found_in.Goals as goal

pub counted_below-requires-clause-holds : goal.counted_below-requires-clause-holds
counted_below-requires-clause-holds g c =
    (c.args.grounds.now.evidence.steps, c.requires.made.is_evidence.steps)

pub untied_files-requires : goal.untied_files-requires
untied_files-requires g c =
    links_differ (g.C.Checks.panel c.args.checks.now) c.args.opened.now.inputs.now
    c.args.grounds.now.documents c.args.grounds.now.evidence c.requires.made.is_evidence

pub files_listed_once-requires : goal.files_listed_once-requires
files_listed_once-requires g c = c.requires.made.read.delivered

pub nonces_shared-requires : goal.nonces_shared-requires
nonces_shared-requires g c = rw c.as_slice.ensures.value c.in_ok-sublayouts.ensures

pub returns : goal.returns
returns g c = record {
  policy = rw (c.from.ensures, ← c.args.opened.now.of_inputs) c.in_ok-of_policy.ensures;
  layout = rw c.from-2.ensures c.in_ok-of_layout.ensures;
  sublayouts = rw c.from-3.ensures (record {
    sublayouts = c.in_ok-sublayouts.sublayouts.items;
    are_counted = c.in_ok-sublayouts.ensures;
    each = c.in_ok-of_sublayouts.ensures;
  });
  untied = rw c.from-4.ensures c.in_ok-untied.ensures;
  listed_once = rw c.from-5.ensures c.in_ok-listed_once.ensures;
  shared_nonces = rw c.from-6.ensures c.in_ok-shared_nonces.ensures;
}
