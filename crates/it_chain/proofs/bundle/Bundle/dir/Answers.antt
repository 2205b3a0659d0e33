use Rattle.std.proofs.Common.{◌∙◌, ap}
use Rattle.it_chain.specs.Contents.{folder_at}
use Rattle.it_chain.proofs.Lookups.{lookup-folders_view}
use Rattle.it_chain.proofs.bundle.Bundle.dir.Goals as goal

pub returns : goal.returns
returns c = c.get.ensures.value ∙ lookup-folders_view c.args.name.now c.self.inside.folders.entries
    ∙ ap (folder_at c.args.name.now) c.self.view_is
