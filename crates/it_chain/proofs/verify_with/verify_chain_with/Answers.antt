use Rattle.std.proofs.Common.{ℤ, suc, sym, subst, rules, w64}
use Rattle.std.proofs.lemmas.Int.{to_z-of_z}
use Rattle.std.proofs.lemmas.Result.{IfOk-weaker}
use Rattle.it_chain.specs.Answered.{AreWithin}
use Rattle.it_chain.proofs.Walks.{ok_of, bad_of}
use Rattle.it_chain.proofs.verify_with.verify_chain_with.Goals as goal

pub verify_level-requires-clause-answers : goal.verify_level-requires-clause-answers
verify_level-requires-clause-answers g c =
    let over = c.args.over.now in
    let At = λ (moment : ℤ).
    AreWithin (record { panel = g.C.Checks.panel c.args.checks.now; moment = moment })
    (suc over.depth) over.links.now c.args.answered.now in
    subst At (sym (to_z-of_z w64 over.moment (search rules))) c.requires.answers

pub returns-clause-ok : goal.returns-clause-ok
returns-clause-ok g c =
    let over = c.args.over.now in
    rw (to_z-of_z w64 over.moment (search rules)) at
    (ok_of _ over.depth over.layout.now over.links.now c.verify_level.result
    c.verify_level.ensures.answer)

pub returns-clause-bad : goal.returns-clause-bad
returns-clause-bad g c =
    let over = c.args.over.now in
    rw (to_z-of_z w64 over.moment (search rules)) at
    (bad_of _ over.depth over.layout.now over.links.now c.verify_level.result
    c.verify_level.ensures.answer)

pub returns-clause-answers : goal.returns-clause-answers
returns-clause-answers g c =
    let over = c.args.over.now in
    let At = λ (moment : ℤ).
    AreWithin (record { panel = g.C.Checks.panel c.args.checks.now; moment = moment })
    (suc over.depth) over.links.now c.verify_level.new.answered in
    IfOk-weaker c.verify_level.result _ _
    (λ chain right. subst At (to_z-of_z w64 over.moment (search rules)) right)
    c.verify_level.ensures.answers
