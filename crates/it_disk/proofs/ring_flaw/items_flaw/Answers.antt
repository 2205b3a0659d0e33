use Rattle.std.proofs.Common.{arith}
use Rattle.serde_json.proofs.Views.{items_len-items_view}
use Rattle.it_disk.proofs.ring_flaw.items_flaw.Goals as goal

pub returns-then-items-gt-MOST_ENTRIES : goal.returns-then-items-gt-MOST_ENTRIES
returns-then-items-gt-MOST_ENTRIES c = omega (arith, items_len-items_view c.args.items.now)
