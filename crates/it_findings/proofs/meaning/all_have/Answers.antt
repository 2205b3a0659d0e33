use Rattle.std.proofs.Common.{All, Bor, Global, List, subst, take_all, ℕ}
use Rattle.std.proofs.lemmas.List.Elements.{All-more}
use Rattle.json.specs.declared.value.Value.{Value}
use Rattle.it_findings.specs.Members.{HasMeaning}
use Rattle.it_findings.proofs.meaning.all_have.Goals as goal

pub loop-member-preserved : goal.loop-member-preserved
loop-member-preserved c =
    let Has : Bor (List ℕ) × Value Global → Type 0 = λ m. HasMeaning c.args.place.now m.0.now in
    let has : Has c.member-item.result = c.has_meaning.ensures.0 c.if-not-has_meaning.false in
    All-more Has c.args.members.now c.loop-member.member-index c.member-item.result
    c.loop-member-test.true c.loop-member.invariant (subst Has c.member-item.is has)

pub returns : goal.returns
returns c = λ t. subst (All (λ (m : Bor (List ℕ) × Value Global). HasMeaning c.args.place.now m.0.now))
    (take_all c.loop-member.member-index c.args.members.now c.loop-member-test.false)
    c.loop-member.invariant
