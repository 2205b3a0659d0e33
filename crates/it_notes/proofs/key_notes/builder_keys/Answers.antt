use Rattle.std.proofs.lemmas.List.Elements.{All-weaker}
use Rattle.it_key_notes.specs.UnknownKeys.{IsUnknownOfBuilders}
use Rattle.it_prov.specs.Fits.{Fits}
use Rattle.it_notes.specs.KeyNotes.{IsOfBuilder}
use Rattle.it_notes.proofs.key_notes.builder_keys.Goals as goal

pub returns : goal.returns
returns g c = λ inputs reads.
    let panel = g.C.Checks.panel c.args.checks.now in
    let path = c.args.path.now in
    let policy = c.args.policy.now in
    let expectation = c.in-Some.expectation.now in
    let speaks : Fits policy.expectations path expectation =
    rw (← c.as_slice.ensures) c.in-Some.ensures in
    All-weaker (IsUnknownOfBuilders panel expectation.builders) (IsOfBuilder panel inputs path)
    (λ note is. record {
      policy = policy;
      expectation = expectation;
      is_policy = reads;
      fits = speaks;
      is_unknown = is;
    }) _ (rw c.as_slice-2.ensures at c.in_ok-notes.ensures)
