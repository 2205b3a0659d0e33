use Rattle.std.proofs.Common.{sym}
use Rattle.it_base.specs.JsonView.{json_of}
use Rattle.it_prov_notes.proofs.parameters.differing_at.Goals as goal

pub returns-in_ok-copy-in-Some-None : goal.returns-in_ok-copy-in-Some-None
returns-in_ok-copy-in-Some-None c = λ panel digests line envelope on. (
  envelope,
  c.args.provenance.now,
  on,
  record {
    wanted = json_of c.in-Some-None.field-0-0.now;
    is_expected = rw c.in_ok-copy-in-Some-None.ensures (sym c.in-Some-None.ensures);
    none_stands = rw c.in_ok-copy-in-Some-None.ensures (sym c.in-Some-None.ensures');
  },
)
