use Rattle.std.proofs.Common.{◌≡◌, ◌∙◌, All, List, Some, ap, arith, refl, subst, sym, take, take_all}
use Rattle.std.proofs.lemmas.List.Elements.{All-more}
use Rattle.std.proofs.lemmas.Option.{slice_get-get_or}
use Rattle.it_dsse.specs.Signed.{Vouches}
use Rattle.it_dsse.specs.declared.envelope.Signature.{Signature}
use Rattle.it_valid_signatures.proofs.FirstSigned.{no_place}
use Rattle.it_valid_signatures.proofs.first_place.first_place.Goals as goal

pub loop-index-preserved : goal.loop-index-preserved
loop-index-preserved g c =
    let P = Vouches (g.C.Checks.panel c.args.checks.now) c.args.id.now
    (g.C.Checks.number c.args.checks.now c.args.key.now) c.args.message.now in
    let here = c.index-signatures-index in
    let refuses : ¬ P here.result =
    λ h. (let is = c.in_ok-vouches.ensures.1 h in cc (is, c.if-vouches.false)) in
    All-more (λ s. ¬ P s) c.args.signatures.now c.loop-index.index here.result c.loop-index-test.true
    c.loop-index.invariant (subst (λ s. ¬ P s) here.is refuses)

pub returns-then-vouches : goal.returns-then-vouches
returns-then-vouches g c =
    let here = c.index-signatures-index in
    record {
      index = c.loop-index.index;
      place_is = refl;
      signature = here.result;
      stands = slice_get-get_or c.args.signatures.now c.loop-index.index here.result
          c.loop-index-test.true ∙ ap Some (sym here.is);
      holds = c.in_ok-vouches.ensures.0 c.if-vouches.true;
      none_before = c.loop-index.invariant;
    }

pub returns : goal.returns
returns g c =
    let P = Vouches (g.C.Checks.panel c.args.checks.now) c.args.id.now
    (g.C.Checks.number c.args.checks.now c.args.key.now) c.args.message.now in
    let signatures = c.args.signatures.now in
    let all : take c.loop-index.index signatures ≡ signatures =
    take_all c.loop-index.index signatures (omega arith) in
    no_place P signatures
    (subst (λ (xs : List Signature). All (λ s. ¬ P s) xs) all c.loop-index.invariant)
