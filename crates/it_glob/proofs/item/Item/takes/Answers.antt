use Rattle.std.proofs.Common.{rules}
use Rattle.it_glob.proofs.Bodies.{written-Decides}
use Rattle.it_glob.proofs.item.Item.takes.Goals as goal

pub returns-in-OneOf : goal.returns-in-OneOf
returns-in-OneOf c =
    let has = written-Decides c.in-OneOf.body c.args.character in
    search (rules, has)
