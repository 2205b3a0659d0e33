use Rattle.std.proofs.Common.{arith}
use Rattle.it_log_entry.proofs.OneItem.{not_one}
use Rattle.it_log_entry.proofs.only_item.only_of.Goals as goal

pub returns-then-len-ne1 : goal.returns-then-len-ne1
returns-then-len-ne1 c = λ only. not_one c.args.items.now.items only (λ one. omega arith)
