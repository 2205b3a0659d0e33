use Rattle.std.proofs.Common.{codes}
use Rattle.it_disk.proofs.EntriesRead.{ends_so, has_stop}
use Rattle.it_disk.proofs.entries.Readable.under.Goals as goal

pub returns-then-depth-gt0 : goal.returns-then-depth-gt0
returns-then-depth-gt0 c =
    let stop = has_stop c.args.name.now c.contains.result c.contains.ensures.cases in
    record {
      file = ends_so (codes ".link") c.args.name.now c.ends_with.result c.ends_with.ensures.cases;
      folder = (λ yes. (c.if-depth-gt0.true, stop.0 yes), λ can. stop.1 can.1);
    }
