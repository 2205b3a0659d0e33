use Rattle.std.proofs.Common.{map}
use Rattle.it_chain.specs.Signers.{entry_of}
use Rattle.it_step_evidence.proofs.ClaimedFor.{lent}
use Rattle.it_step_evidence.proofs.Names.{names_are, none_signed, places_are, some_signed}
use Rattle.it_step_evidence.proofs.counted_keys.counted_key.Goals as goal

pub returns-then-is_empty : goal.returns-then-is_empty
returns-then-is_empty g c =
    none_signed (g.C.Checks.panel c.args.checks.now) c.args.step.now (map lent c.args.files.now)
    (entry_of c.args.signer.now) c.in_ok-places.places c.in_ok-places.ensures
    (c.is_empty.ensures.0 c.if-is_empty.true)

pub returns : goal.returns
returns g c =
    let panel = g.C.Checks.panel c.args.checks.now in
    let files = map lent c.args.files.now in
    let signer = entry_of c.args.signer.now in
    let places = c.in_ok-places.places in
    let are = c.in_ok-places.ensures in (
      some_signed panel c.args.step.now files signer places are
          (λ empty. let is = c.is_empty.ensures.1 empty in cc (is, c.if-is_empty.false)),
      record {
        id_is = c.in_ok-copy.ensures;
        files_are = rw (c.from.ensures, c.in_ok-names.ensures.0)
            (names_are panel c.args.step.now files signer places are);
        signatures_are = rw (
          c.from.ensures,
          c.from-2.ensures,
          c.in_ok-names.ensures.0,
          c.in_ok-names.ensures.1,
        ) (places_are panel c.args.step.now files signer places are);
      },
    )
