use Rattle.std.proofs.Common.{◌≡◌, true, sym}
use Rattle.it_base.specs.JsonView.{json_of}
use Rattle.it_prov_notes.proofs.parameters.unexpected_at.Goals as goal

pub returns-in_ok-copy-in-None-Some : goal.returns-in_ok-copy-in-None-Some
returns-in_ok-copy-in-None-Some c = λ panel digests line envelope on. (
  envelope,
  c.args.provenance.now,
  on,
  record {
    given = json_of c.in-None-Some.field-0-1.now;
    stands = rw c.in_ok-copy-in-None-Some.ensures (sym c.in-None-Some.ensures');
    none_expected = rw c.in_ok-copy-in-None-Some.ensures (sym c.in-None-Some.ensures);
    not_ignored = rw c.in_ok-copy-in-None-Some.ensures
        (λ h. (let is : c.is_ignored.result ≡ true = c.is_ignored.ensures.1 h in
        cc (is, c.if-not-is_ignored.true)));
  },
)
