use Rattle.it_prov.proofs.Indexing.{put_each}
use Rattle.it_prov.proofs.index.Index.add.Goals as goal

pub returns : goal.returns
returns c = put_each c.args.entry c.args.self.now _ c.in_ok-add_under.ensures
    c.in_ok-add_under-2.ensures c.in_ok-add_under-3.ensures
