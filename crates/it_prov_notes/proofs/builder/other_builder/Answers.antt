use Rattle.std.proofs.Common.{◌≡◌, ◌∙◌, Contains, true, sym, ap}
use Rattle.it_docs.specs.declared.policy.Builder.{Builder}
use Rattle.it_prov_notes.proofs.WhoSigned.{signed_signer, signer_signed}
use Rattle.it_prov_notes.proofs.builder.other_builder.Goals as goal

pub returns : goal.returns
returns c = λ panel expectation digests line envelope on are.
    let signers = c.args.signers.now in
    let first = c.in-Some.signer.now in
    let item = c.in-Some.ensures.item in
    let stands : Contains signers first = (0, (item.3).0, sym item.1) in (
      envelope,
      c.args.provenance.now,
      on,
      record {
        builder = first.now;
        signed = signer_signed panel expectation envelope signers are first stands;
        wanted_is = c.in_ok-copy-2.ensures ∙ c.as_str.ensures;
        found_is = c.in_ok-copy.ensures ∙ c.as_str-found.ensures;
        none_has_it = λ other signed same. (
            let b = signed_signer panel expectation envelope signers are other signed in
            let id_is : b.0.now.id ≡ c.as_str-found.result.now =
            ap (λ (x : Builder). x.id) b.2 ∙ sym same ∙ c.in_ok-copy.ensures in
            let some : c.some_has_id.result ≡ true =
            c.some_has_id.ensures.1 ((b.1).0, b.0, (b.1).1, (b.1).2, id_is) in
            cc (some, c.if-some_has_id.false));
      },
    )
