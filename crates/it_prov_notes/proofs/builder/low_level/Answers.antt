use Rattle.std.proofs.Common.{◌∙◌, refl, sym, ap}
use Rattle.it_docs.specs.declared.policy.Builder.{Builder}
use Rattle.it_prov_notes.proofs.WhoSigned.{signed_signer, signer_signed}
use Rattle.it_prov_notes.proofs.builder.low_level.Goals as goal

pub returns : goal.returns
returns c = λ panel digests line envelope on are.
    let expectation = c.args.expectation.now in
    let signers = c.args.signers.now in
    let level = c.in-Some.ensures in
    let builder = level.0 in (
      envelope,
      c.args.provenance.now,
      on,
      record {
        builder = builder.0.now;
        signed = signer_signed panel expectation envelope signers are builder.0 builder.1;
        built_by = sym c.as_str.ensures ∙ sym builder.2;
        found_is = builder.3;
        wanted_is = refl;
        greatest = λ other signed same. (
            let b = signed_signer panel expectation envelope signers are other signed in
            level.1 other.level (
              b.0,
              b.1,
              ap (λ (x : Builder). x.id) b.2 ∙ sym same ∙ sym c.as_str.ensures,
              ap (λ (x : Builder). x.level) (sym b.2),
            ));
        is_low = c.if-found-wanted.false;
      },
    )
