use Rattle.std.proofs.Common.{◌≡◌, ◌∙◌, ◌==◌, [], ap, length, rules, sym, true}
use Rattle.it_chain.proofs.Walks.{nil_of}
use Rattle.it_step_notes.specs.Signing.{IsSignedUnder}
use Rattle.it_step_notes.proofs.Those.{none_holds, those_hold, those_stand}
use Rattle.it_step_notes.proofs.finding.finding_of.Goals as goal

pub unsigned_finding-requires : goal.unsigned_finding-requires
unsigned_finding-requires g c =
    let panel = g.C.Checks.panel c.args.checks.now in
    let none : c.in_ok-ids.ids.items ≡ [] = sym c.as_slice-signed.ensures.value
    ∙ nil_of c.as_slice-signed.result.now (sym c.is_empty.ensures ∙ c.if-is_empty.true) in
    let P = IsSignedUnder panel c.args.at.now.layout.now c.args.envelope.now in
    none_holds P c.args.at.now.step.now.pubkeys c.in_ok-ids.ids.items c.in_ok-ids.ensures none

pub returns-in-None : goal.returns-in-None
returns-in-None g c =
    let panel = g.C.Checks.panel c.args.checks.now in
    let P = IsSignedUnder panel c.args.at.now.layout.now c.args.envelope.now in
    let pubkeys = c.args.at.now.step.now.pubkeys in
    let ids = c.in_ok-ids.ids.items in
    let body = rw (c.in-None.is, c.as_str.ensures, c.as_slice.ensures) at c.in_ok-finding.ensures in
    rw c.from.ensures (record {
      some = λ none. (let empty : c.is_empty.result ≡ true = c.is_empty.ensures
          ∙ ap (λ m. length m == 0) (c.as_slice-signed.ensures.value ∙ none) in cc (empty, c.if-is_empty.false));
      type_is = search rules;
      body = body.0;
      reads = body.1;
      listed = those_stand P pubkeys ids c.in_ok-ids.ensures;
      signed = those_hold P pubkeys ids c.in_ok-ids.ensures;
    })
