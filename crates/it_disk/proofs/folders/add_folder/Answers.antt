use Rattle.std.proofs.Common.{string_bytes}
use Rattle.it_limits.proofs.LinksWithin.{folder_within}
use Rattle.it_disk.proofs.LinksCounted.{folder_counted}
use Rattle.it_disk.proofs.LinksSized.{folder_sized}
use Rattle.it_disk.proofs.folders.add_folder.Goals as goal

pub returns-in-Ok-clause-limited : goal.returns-in-Ok-clause-limited
returns-in-Ok-clause-limited c = λ limited before inside is_limited.
    rw c.in-Ok.ensures.ok
    (folder_within (string_bytes c.args.entry.name) c.args.inner.bundle c.args.links.now.bundle
    (inside is_limited) (before is_limited))

pub returns-in-Ok-clause-size : goal.returns-in-Ok-clause-size
returns-in-Ok-clause-size c =
    rw c.in-Ok.ensures.ok
    (folder_sized (string_bytes c.args.entry.name) c.args.inner.bundle c.args.links.now.bundle)

pub returns-in-Ok-clause-count : goal.returns-in-Ok-clause-count
returns-in-Ok-clause-count c =
    rw c.in-Ok.ensures.ok
    (folder_counted (string_bytes c.args.entry.name) c.args.inner.bundle c.args.links.now.bundle)
