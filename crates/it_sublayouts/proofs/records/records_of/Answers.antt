use Rattle.std.proofs.Common.{ℤ, suc, sym, subst, rules, w64}
use Rattle.std.proofs.lemmas.Int.{to_z-of_z}
use Rattle.it_chain.specs.Answered.{AreWithin}
use Rattle.it_chain.proofs.Excludes.{chain_excludes}
use Rattle.it_sublayouts.specs.Counted.{setting_of}
use Rattle.it_sublayouts.proofs.records.records_of.Goals as goal

pub verify_chain_with-requires-clause-answers : goal.verify_chain_with-requires-clause-answers
verify_chain_with-requires-clause-answers g c =
    let level = c.args.level.now in
    let At = λ (moment : ℤ).
    AreWithin (record { panel = g.C.Checks.panel c.args.walk.now.checks.now; moment = moment })
    (suc level.depth) level.links.now c.args.answered.now in
    subst At (sym (to_z-of_z w64 level.moment (search rules))) c.requires.answers

pub unreachable-requires : goal.unreachable-requires
unreachable-requires g c =
    let level = c.args.level.now in
    let setting = setting_of (g.C.Checks.panel c.args.walk.now.checks.now) level in
    let refusal = c.in-Err-Refused.field-0-0 in
    let bad = rw (to_z-of_z w64 level.moment (search rules)) at c.verify_chain_with.ensures.bad in
    chain_excludes setting level.depth level.layout.now level.links.now c.requires.holds.0 refusal
    c.requires.holds.1
    ((rw c.in-Err-Refused.is at bad) refusal c.in-Err-Refused.field-0-is)
