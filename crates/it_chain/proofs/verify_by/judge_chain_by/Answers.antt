use Rattle.std.proofs.Common.{rules, w64}
use Rattle.std.proofs.lemmas.Int.{to_z-of_z}
use Rattle.it_chain.specs.Judged.{settles}
use Rattle.it_chain.proofs.LevelAsking.{chain_at_least, chain_at_most}
use Rattle.it_chain.proofs.LevelFewest.{chain_takes}
use Rattle.it_chain.proofs.Walks.{ok_of, bad_of}
use Rattle.it_chain.proofs.verify_by.judge_chain_by.Goals as goal

pub returns-clause-ok : goal.returns-clause-ok
returns-clause-ok g c = rw (to_z-of_z w64 c.args.moment (search rules)) at
    (ok_of _ c.args.depth c.args.layout.now c.args.links.now (settles c.judge_level.result)
    c.judge_level.ensures.answer)

pub returns-clause-bad : goal.returns-clause-bad
returns-clause-bad g c = rw (to_z-of_z w64 c.args.moment (search rules)) at
    (bad_of _ c.args.depth c.args.layout.now c.args.links.now (settles c.judge_level.result)
    c.judge_level.ensures.answer)

pub returns-clause-records : goal.returns-clause-records
returns-clause-records g c = rw (to_z-of_z w64 c.args.moment (search rules)) at
    c.judge_level.ensures.records

pub returns-clause-at_most : goal.returns-clause-at_most
returns-clause-at_most g c =
    rw (to_z-of_z w64 c.args.moment (search rules)) at
    (chain_at_most _ c.args.depth c.args.layout.now c.args.links.now c.args.meter.now
    c.judge_level.new.meter (settles c.judge_level.result) c.judge_level.ensures.asked)

pub returns-clause-at_least : goal.returns-clause-at_least
returns-clause-at_least g c =
    rw (to_z-of_z w64 c.args.moment (search rules)) at
    (chain_takes _ c.args.layout.now c.args.links.now c.args.meter.now c.judge_level.new.meter
    c.args.depth c.judge_level.result c.judge_level.ensures.fewest)

pub returns-clause-at_least_keys : goal.returns-clause-at_least_keys
returns-clause-at_least_keys g c = chain_at_least _ c.args.depth c.args.layout.now
    c.args.links.now c.args.meter.now c.judge_level.new.meter (settles c.judge_level.result)
    c.judge_level.ensures.asked
