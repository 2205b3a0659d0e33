use Rattle.std.proofs.Common.{arith, rules}
use Rattle.it_prov.proofs.Indexing.{put_under}
use Rattle.it_prov.proofs.index.add_under.Goals as goal

pub returns-in_ok-end_with : goal.returns-in_ok-end_with
returns-in_ok-end_with g c =
    let update = c.in_ok-entries.ensures.update.0 c.end_with.new.entries in
    let here = update.1 in
    let others = update.2 in
    rw c.in-Some.is (put_under c.in-Some.digest c.args.entry c.args.entries.now _ _
    c.or_default.result.now c.end_with.new.entries _ (λ v made. made.0)
    c.in_ok-entries.ensures.value c.or_default.ensures.value (search rules)
    (λ q apart. grind (arith, others q apart)) c.in_ok-end_with.ensures)
