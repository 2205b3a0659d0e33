use Rattle.std.proofs.Common.{◌∙◌, ap}
use Rattle.it_base.specs.Table.{named_entries}
use Rattle.it_file_evidence.specs.Signer.{first_answer, object_for}
use Rattle.it_file_evidence.proofs.signer.object_among_keys.Goals as goal

pub loop-id-init : goal.loop-id-init
loop-id-init c =
    ap (first_answer (object_for c.args.signature.now c.args.identity.now))
    (ap named_entries c.into_iter-id-iterator.ensures.into_iter_gives ∙ c.iter-id-items.ensures)
